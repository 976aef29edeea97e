-- The theorem: in every group that is reached, members that moved straight from v to v' gave out the same words in v.
-- Both gave out the first so many of the words that the sender accepted, and by the records that all made they agreed how many. Assumes nothing.
use mathlib.Core.Path.{◌≡◌, refl, sym, ◌∙◌}
use mathlib.Core.Bool.{Bool, true, false}
use Prim.Native.Nat.{ℕ}
use lib.ListN.{length}
use Rattle.automaton.specs.Domain.{Domain}
use Rattle.automaton.specs.Group.{Group, Reach}
use Rattle.automaton.specs.Synchrony.{Moved, out_of, accepted_by, VirtualSynchrony}
use Rattle.automaton.proofs.Positions.{Prefix, prefix_take, prefix_same, prefix_all}
use Rattle.automaton.proofs.Invariant.{Settled}
use Rattle.automaton.proofs.Reached.{GroupInvariant, made_in, reached}

module _ {D : Domain} {n : ℕ} (g : Group D) (I : GroupInvariant D n g) (v v' : D.View) where
  first_part : (p r : ℕ) → Prefix (out_of g p v r) (accepted_by g r v)
  first_part p r = (I.each p).giving.first v r

  settled : (p : ℕ) → Moved g p v v' → Settled D n p (made_in g) (g.member p).current (g.member p).gave_out (g.member p).accepted v v'
  settled p m = (I.each p).moving v v' m

  same_words : (p q r : ℕ) → Moved g p v v' → Moved g q v v' → out_of g p v r ≡ out_of g q v r
  same_words p q r mp mq = go (D.has v r) refl
    where
      go : (b : Bool) → D.has v r ≡ b → out_of g p v r ≡ out_of g q v r
      go true e = prefix_same _ _ (accepted_by g r v) (first_part p r) (first_part q r) ((settled p mp).given r e ∙ sym ((settled q mq).given r e))
      go false e = (I.each p).giving.members v r e ∙ sym ((I.each q).giving.members v r e)

  all_words : (p r : ℕ) → Moved g p v v' → Moved g r v v' → out_of g p v r ≡ accepted_by g r v
  all_words p r mp mr = prefix_all _ _ (first_part p r) ((settled p mp).given r (settled r mr).was ∙ sym (settled r mr).all)

pub virtual_synchrony : {D : Domain} {n : ℕ} {g : Group D} → Reach D n g → VirtualSynchrony D g
virtual_synchrony {g = g} reach p q r v v' mp mq =
    let I = reached reach in
    record {
      same = same_words g I v v' p q r mp mq;
      first = (length (out_of g p v r), prefix_take _ _ (first_part g I v v' p r));
      all = λ mr. all_words g I v v' p r mp mr;
    }
