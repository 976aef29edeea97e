-- `slot_of` meets its contract: what the search over the tags finds. Assumes nothing.
use mathlib.Core.Path.{◌≡◌, sym, ◌∙◌}
use lib.ListN.{length}
use borrow.Author.Rules.{rules}
use Rattle.marks.proofs.Slot.{array_length}
use Rattle.slots.proofs.Searches.{slot_found}
use Rattle.slots.proofs.Slots.slot_of.Goals as goal

pub returns-in_err-s : goal.returns-in_err-s
returns-in_err-s c =
    let n : length c.args.self.now.tags ≡ 4 = search (rules, array_length) in
    c.from_residual.ensures ∙ sym c.in_err-s.was ∙ c.tag_for.ensures ∙ slot_found c.args.self.now.tags c.args.v n

pub returns : goal.returns
returns c =
    let n : length c.args.self.now.tags ≡ 4 = search (rules, array_length) in
    sym c.in_ok-s.was ∙ c.tag_for.ensures ∙ slot_found c.args.self.now.tags c.args.v n
