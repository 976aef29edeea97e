-- The pass as a loop: what holds after m members, at none, at one more and at the end. Assumes nothing.
use Prim.Native.Nat.{ℕ, ◌+◌, ◌≤◌, ◌<◌}
use native.Mathlib.Omega.{arith}
use mathlib.Core.Bool.{Bool, true, false, not, cond, ◌&&◌, and-false, and-true}
use mathlib.Core.Logic.{⊎_elim}
use mathlib.Core.Path.{◌≡◌, refl, sym, ap, ◌∙◌}
use lib.Dec.{ltb, eqb}
use borrow.Author.Tests.{lt-ltb, le-ltb, eq-eqb, ne_eqb, eqb-true, eqb-false}
use lib.ListN.{length, set, get_or, replicate, length-set, length-replicate, get_or-replicate, get_or-eq_default}
use lib.Seq.{get_or-set_same, get_or-set_other, ext_get_or}
use Rattle.below.specs.Below.{all_below, list_below}
use Rattle.below.proofs.Tests.{side}
use Rattle.below.proofs.All.{acc_none, acc_more}
use Rattle.below.proofs.Lists.{list_at, list_length}
use Rattle.views.specs.declared.Cut.{Cut}
use Rattle.views.specs.declared.View.{View}
use Rattle.views.specs.Sets.{with_if, set_of, joined, only}
use Rattle.views.specs.Cuts.{no_cut}
use Rattle.views.proofs.Members.{set_below, set_loop_none, set_loop_more, set_loop_end}
use Rattle.records.specs.declared.Records.{Records}
use Rattle.agreement.specs.declared.Agreement.{Agreement}
use Rattle.agreement.specs.declared.agreeing.Part.{Part}
use Rattle.agreement.specs.declared.agreeing.Part.TheVariants.{Outside, Unnamed, Agrees}
use Rattle.agreement.specs.Named.{T, unnamed, in_both, in_t, named_held, named}
use Rattle.agreement.specs.Agreement.{agreement}
use Rattle.agreement.specs.Pass.{part_of, cut_of_part, agrees_of_part, named_of_part}
use Rattle.agreement.specs.Tops.{higher, tops}
use Rattle.agreement.proofs.Largest.{tops_none, tops_more, higher_none}
use Rattle.agreement.proofs.Passed.{cut_of_is, agrees_of_is, named_of_is, counts_are}

not_not : (b : Bool) → not (not b) ≡ b
not_not true = refl
not_not false = refl

-- the agreement after m members, whose parts f gives
pub record Going (f : ℕ → Part) (a : Agreement) (m : ℕ) : Type 0 where
  pub long : length a.cuts ≡ 8
  pub filled : (k : ℕ) → get_or a.cuts k no_cut ≡ cond (ltb k m) (cut_of_part (f k)) no_cut
  pub topped : a.counts ≡ tops (λ k. cut_of_part (f k)) m
  pub joined : a.set ≡ set_below (λ k. agrees_of_part (f k)) m
  pub told : not a.unnamed ≡ all_below (λ k. named_of_part (f k)) m

module _ (f : ℕ → Part) where
  pub going_start : (a : Agreement) → a ≡ record { cuts = replicate 8 no_cut; counts = no_cut; set = 0; unnamed = false } → Going f a 0
  going_start a p =
      rw p (record {
        long = length-replicate 8 no_cut;
        filled = λ k. rw (le-ltb k 0 (omega arith)) (⊎_elim (λ l. get_or-replicate 8 k no_cut no_cut l) (λ l. get_or-eq_default (replicate 8 no_cut) no_cut (rw (length-replicate 8 no_cut) l)) (side k 8));
        topped = tops_none (λ k. cut_of_part (f k));
        joined = set_loop_none (λ k. agrees_of_part (f k));
        told = acc_none (λ k. named_of_part (f k));
      })

  module _ (a : Agreement) (m : ℕ) (x : Part) (g : Going f a m) (l : m < 8) (e : x ≡ f m) where
    -- b is a with x, the part of m
    going_more : (b : Agreement) → length b.cuts ≡ 8
        → ((k : ℕ) → get_or b.cuts k no_cut ≡ cond (eqb k m) (cut_of_part x) (get_or a.cuts k no_cut))
        → b.counts ≡ higher a.counts (cut_of_part x)
        → b.set ≡ with_if a.set m (agrees_of_part x)
        → not b.unnamed ≡ (not a.unnamed && named_of_part x)
        → Going f b (m + 1)
    going_more b long at counts joined told =
        record {
          long = long;
          filled = λ k. at k ∙ step k;
          topped = tops_more (λ k. cut_of_part (f k)) m a.counts (cut_of_part x) b.counts g.topped (ap cut_of_part e) counts;
          joined = set_loop_more (λ k. agrees_of_part (f k)) m a.set b.set (agrees_of_part x) joined g.joined (ap agrees_of_part e) l;
          told = told ∙ acc_more (λ k. named_of_part (f k)) m (not a.unnamed) (named_of_part x) g.told (ap named_of_part e);
        }
      where
        step : (k : ℕ) → cond (eqb k m) (cut_of_part x) (get_or a.cuts k no_cut) ≡ cond (ltb k (m + 1)) (cut_of_part (f k)) no_cut
        step k =
            ⊎_elim
            (λ (q : k < m). rw (ne_eqb k m (λ t. omega arith), g.filled k, lt-ltb k m q, lt-ltb k (m + 1) (omega arith)) refl)
            (λ (q : m ≤ k). ⊎_elim
            (λ (r : k < m + 1). let t : k ≡ m = omega arith in rw (t, eq-eqb m m refl, lt-ltb m (m + 1) (omega arith)) (ap cut_of_part e))
            (λ (r : m + 1 ≤ k). rw (ne_eqb k m (λ t. omega arith), g.filled k, le-ltb k m q, le-ltb k (m + 1) r) refl)
            (side k (m + 1)))
            (side k m)

    -- m has no cut yet
    stays : (k : ℕ) → get_or a.cuts k no_cut ≡ cond (eqb k m) no_cut (get_or a.cuts k no_cut)
    stays k = go (eqb k m) refl
      where
        go : (b : Bool) → eqb k m ≡ b → get_or a.cuts k no_cut ≡ cond b no_cut (get_or a.cuts k no_cut)
        go false q = refl
        go true q = let t : k ≡ m = eqb-true k m q in g.filled k ∙ rw (t, le-ltb m m (omega arith)) refl

    pub going_outside : x ≡ Outside → Going f a (m + 1)
    unfolding with_if
    going_outside q =
        going_more a g.long (λ k. rw q (stays k)) (rw q (sym (higher_none (λ k. cut_of_part (f k)) m a.counts g.topped))) (rw q refl) (rw q (sym (and-true (not a.unnamed))))

    pub going_unnamed : x ≡ Unnamed → Going f (record { cuts = a.cuts; counts = a.counts; set = a.set; unnamed = true }) (m + 1)
    unfolding with_if
    going_unnamed q =
        going_more (record { cuts = a.cuts; counts = a.counts; set = a.set; unnamed = true }) g.long (λ k. rw q (stays k))
        (rw q (sym (higher_none (λ k. cut_of_part (f k)) m a.counts g.topped))) (rw q refl) (rw q (sym (and-false (not a.unnamed))))

    pub going_agrees : (cut counts : Cut) (s : ℕ) → x ≡ Agrees cut → counts ≡ higher a.counts cut → s ≡ joined a.set (only m) → Going f (record { cuts = set a.cuts m cut; counts = counts; set = s; unnamed = a.unnamed }) (m + 1)
    unfolding with_if
    going_agrees cut counts s q c j =
        going_more (record { cuts = set a.cuts m cut; counts = counts; set = s; unnamed = a.unnamed }) (length-set a.cuts m cut ∙ g.long) (λ k. rw q (at k))
        (rw q c) (rw q j) (rw q (sym (and-true (not a.unnamed))))
      where
        at : (k : ℕ) → get_or (set a.cuts m cut) k no_cut ≡ cond (eqb k m) cut (get_or a.cuts k no_cut)
        at k = go (eqb k m) refl
          where
            go : (b : Bool) → eqb k m ≡ b → get_or (set a.cuts m cut) k no_cut ≡ cond b cut (get_or a.cuts k no_cut)
            go true r = let t : k ≡ m = eqb-true k m r in rw t (get_or-set_same a.cuts m cut no_cut (omega (arith, g.long)))
            go false r = get_or-set_other a.cuts m k cut no_cut (eqb-false k m r)

-- the pass that ran to its end
module _ (current membership : View) (rs : Records) (a : Agreement) (g : Going (part_of current membership rs) a 8) where
  cuts_are : a.cuts ≡ list_below (λ m. cond (in_t current membership rs m) (named membership rs m).cut no_cut) 8
  cuts_are =
      ext_get_or no_cut a.cuts (list_below (λ m. cond (in_t current membership rs m) (named membership rs m).cut no_cut) 8) (g.long ∙ sym (list_length (λ m. cond (in_t current membership rs m) (named membership rs m).cut no_cut) 8))
      (λ k h. let l : k < 8 = omega (arith, g.long) in
      g.filled k ∙ rw (lt-ltb k 8 l) (cut_of_is current membership rs k) ∙ sym (list_at (λ m. cond (in_t current membership rs m) (named membership rs m).cut no_cut) 8 k no_cut l))

  pub going_end : a ≡ agreement current membership rs
  unfolding agreement T unnamed
  going_end =
      let s : a.set ≡ set_of (in_t current membership rs) = set_loop_end (λ k. agrees_of_part (part_of current membership rs k)) 8 a.set (omega arith) (omega arith) g.joined ∙ ap set_of (λ i k. agrees_of_is current membership rs k i) in
      let n : not a.unnamed ≡ all_below (λ k. cond (in_both current membership k) (named_held membership rs k) true) 8 = g.told ∙ ap (λ h. all_below h 8) (λ i k. named_of_is current membership rs k i) in
      let c : a.counts ≡ (agreement current membership rs).counts = g.topped ∙ counts_are current membership rs in
      λ i. record { cuts = cuts_are i; counts = c i; set = s i; unnamed = (sym (not_not a.unnamed) ∙ ap not n) i }
