-- `put::put_cut` meets its contract: each count is its byte. Assumes nothing.
use borrow.Author.Rules.{rules}
use Rattle.messages.specs.Bytes.{cut_bytes}
use Rattle.messages.proofs.Parts.{counts_bytes}
use Rattle.messages.proofs.put.put_cut.Goals as goal

pub returns : goal.returns
unfolding cut_bytes
returns c = rw (counts_bytes c.args.cut.counts (search rules) (λ i. (search rules))) c.put_part.ensures
