-- What one pass over the members found, as the definitions of an end-point say it: the agreed counts, what is owed, the lowest word that is due.
-- Assumes nothing.
use Prim.Native.Nat.{ℕ, ◌<◌}
use mathlib.Core.Bool.{Bool, true, not, cond}
use mathlib.Core.Path.{◌≡◌, ap, ◌∙◌}
use lib.Dec.{leb}
use lib.ListN.{get_or}
use Rattle.below.proofs.All.{all_same}
use Rattle.views.specs.Sets.{has}
use Rattle.views.specs.Cuts.{count_of}
use Rattle.marks.specs.declared.Held.{Held}
use Rattle.marks.specs.declared.Marks.{Marks}
use Rattle.marks.specs.Held.{held_at}
use Rattle.marks.specs.Marks.{held_in, row_of, no_marks}
use Rattle.slots.specs.Slots.{slot_of, marks_at, held_word}
use Rattle.agreement.specs.declared.Agreement.{Agreement}
use Rattle.agreement.specs.Agreement.{agreement, agrees, cut_in}
use Rattle.agreement.specs.Named as Named
use Rattle.agreement.specs.Due as Due
use Rattle.agreement.proofs.Passed.{counts_is, owes_same, lowest_same}
use Rattle.parts.specs.Counts.{at_least}
use Rattle.endpoint.specs.declared.EndPoint.{EndPoint}
use Rattle.endpoint.specs.Ready.{in_t, T, named_cut, agreed, unnamed}
use Rattle.endpoint.specs.Due.{lowest_due, owes}
use Rattle.endpoint.specs.Install.{all_members, fewer, more}
use Rattle.std.specs.Prelude.{Option}
use Rattle.below.specs.Below.{found}

module _ (e : EndPoint) (a : Agreement) (given : a ≡ agreement e.current e.membership e.records) where
  pub count_is : (q : ℕ) → q < 8 → count_of a.counts q ≡ agreed e q
  unfolding agreed
  count_is q l = ap (λ x. count_of x.counts q) given ∙ counts_is e.current e.membership e.records q l

  pub unnamed_is : a.unnamed ≡ unnamed e
  unfolding unnamed agreement
  unnamed_is = ap (λ x. x.unnamed) given

  pub T_is : a.set ≡ T e
  unfolding T agreement
  T_is = ap (λ x. x.set) given

  pub owes_is : (b : Bool) → e.me < 8 → b ≡ Due.owes (agrees a) (cut_in a) e.current.set e.me e.forwarded → b ≡ owes e
  unfolding owes in_t named_cut
  owes_is b l h =
      h ∙ ap (λ x. Due.owes (agrees x) (cut_in x) e.current.set e.me e.forwarded) given
      ∙ owes_same e.current e.membership e.records e.current.set e.me l e.forwarded

  -- m is the current view's marks, h the row of r in it, o what the search of one pass gave
  pub lowest_is : (s : ℕ) (m : Marks) (h : Held) (q r : ℕ) (o : Option ℕ) → e.me < 8 → q < 8 → r < 8 → s ≡ slot_of e.slots e.current
      → m ≡ get_or e.slots.marks s no_marks → h ≡ row_of m r
      → o ≡ found 128 (Due.lowest_due (agrees a) (cut_in a) e.current.set e.me e.forwarded (held_at h) q r) → o ≡ found 128 (lowest_due e q r)
  unfolding lowest_due in_t named_cut held_word held_in marks_at
  lowest_is s m h q r o l lq lr p d g j =
      j ∙ ap (found 128)
      (ap (λ x. Due.lowest_due (agrees x) (cut_in x) e.current.set e.me e.forwarded (held_at h) q r) given
      ∙ lowest_same e.current e.membership e.records e.current.set e.me l e.forwarded (held_at h) q r lq lr
      ∙ ap (λ y. Due.lowest_due (Named.in_t e.current e.membership e.records) (Named.named_cut e.membership e.records) e.current.set e.me e.forwarded (held_at y) q r)
      (g ∙ ap (λ x. row_of x r) (d ∙ ap (λ k. get_or e.slots.marks k no_marks) p)))

  at : (r : ℕ) → r < 8 → get_or a.counts.counts r 0 ≡ agreed e r
  unfolding count_of
  at r l = count_is r l

  -- 13 and 15: the counts given out against those agreed
  pub fewer_is : (b : Bool) → b ≡ at_least e.current.set a.counts.counts e.given → not b ≡ fewer e
  unfolding fewer all_members at_least
  fewer_is b h =
      ap not (h ∙ all_same (λ r. cond (has e.current.set r) (leb (get_or a.counts.counts r 0) (get_or e.given r 0)) true)
      (λ r. cond (has e.current.set r) (leb (agreed e r) (get_or e.given r 0)) true) 8
      (λ r l. ap (λ k. cond (has e.current.set r) (leb k (get_or e.given r 0)) true) (at r l)))

  pub more_is : (b : Bool) → b ≡ at_least e.current.set e.given a.counts.counts → not b ≡ more e
  unfolding more all_members at_least
  more_is b h =
      ap not (h ∙ all_same (λ r. cond (has e.current.set r) (leb (get_or e.given r 0) (get_or a.counts.counts r 0)) true)
      (λ r. cond (has e.current.set r) (leb (get_or e.given r 0) (agreed e r)) true) 8
      (λ r l. ap (λ k. cond (has e.current.set r) (leb (get_or e.given r 0) k) true) (at r l)))
