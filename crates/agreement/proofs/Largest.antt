-- The largest count of each sender: a cut raised by another, and by one more in a loop; what the members of T below p have.
-- Assumes nothing.
use Prim.Native.Nat.{ℕ, ◌+◌, ◌≤◌, ◌<◌, max}
use native.Mathlib.Nat.{le_antisymm}
use mathlib.Core.Bool.{Bool, true, false, cond}
use mathlib.Core.Path.{◌≡◌, refl, sym, ap, ◌∙◌}
use mathlib.Core.Logic.{⊎_elim}
use Rattle.std.proofs.Math.Nat.{max-zero}
use lib.ListN.{get_or, get_or-replicate, get_or-eq_default}
use Rattle.below.specs.Below.{largest_below, join_below, list_below}
use Rattle.below.proofs.Tests.{side}
use Rattle.below.proofs.Count.{largest_more}
use Rattle.below.proofs.Lists.{list_at}
use Rattle.views.specs.declared.Cut.{Cut}
use Rattle.views.specs.Sets.{has}
use Rattle.views.specs.Cuts.{no_cut, count_of}
use Rattle.agreement.specs.declared.Agreement.{Agreement}
use Rattle.agreement.specs.Agreement.{agrees, cut_in}
use Rattle.agreement.specs.Spans.{lower}
use Rattle.agreement.specs.Tops.{higher, tops, cut_or_none}
use Rattle.agreement.proofs.Numbers.{largest_same, list_same}

pub count_none : (r : ℕ) → count_of no_cut r ≡ 0
unfolding count_of
count_none r = ⊎_elim (λ l. get_or-replicate 8 r 0 0 l) (λ l. get_or-eq_default no_cut.counts 0 l) (side r 8)

-- a cut or none, by sender
pub count_or_none : (b : Bool) (x : Cut) (r : ℕ) → count_of (cond b x no_cut) r ≡ cond b (count_of x r) 0
count_or_none true x r = refl
count_or_none false x r = count_none r

-- ---- `let mut c = Cut::none(); for i in 0..n { c = higher(c, g(..)); } c`

module _ (f : ℕ → Cut) where
  pub tops_at : (n r : ℕ) → r < 8 → count_of (tops f n) r ≡ largest_below (λ m. count_of (f m) r) n
  unfolding tops count_of
  tops_at n r l = list_at (λ r. largest_below (λ m. count_of (f m) r) n) 8 r 0 l

  pub tops_none : no_cut ≡ tops f 0
  unfolding tops list_below join_below largest_below
  tops_none = refl

  pub tops_start : (c : Cut) → c ≡ no_cut → c ≡ tops f 0
  tops_start c e = e ∙ tops_none

  pub tops_more : (i : ℕ) (c x d : Cut) → c ≡ tops f i → x ≡ f i → d ≡ higher c x → d ≡ tops f (i + 1)
  unfolding higher tops
  tops_more i c x d p q e =
      e ∙ rw (p, q) (ap (λ l. record { counts = l }) (list_same (λ r. max (count_of (tops f i) r) (count_of (f i) r)) (λ r. largest_below (λ m. count_of (f m) r) (i + 1)) 8
      (λ r l. ap (λ k. max k (count_of (f i) r)) (tops_at i r l) ∙ sym (largest_more (λ m. count_of (f m) r) i))))

  -- one without a count adds nothing
  pub higher_none : (i : ℕ) (c : Cut) → c ≡ tops f i → higher c no_cut ≡ c
  unfolding higher tops
  higher_none i c p =
      rw p (ap (λ l. record { counts = l }) (list_same (λ r. max (count_of (tops f i) r) (count_of no_cut r)) (λ r. largest_below (λ m. count_of (f m) r) i) 8
      (λ r l. rw (count_none r) (max-zero (count_of (tops f i) r) ∙ tops_at i r l))))

  pub tops_end : (n i : ℕ) (c : Cut) → i ≤ n → n ≤ i → c ≡ tops f i → c ≡ tops f n
  tops_end n i c a b e = rw (le_antisymm a b) at e

pub ruleset rises = (tops_start, tops_more, tops_end)

-- one more member, by whether it is in T
module _ (a : Agreement) (m : ℕ) (c : Cut) (p : c ≡ tops (cut_or_none a) m) where
  pub lowers_with : (x d : Cut) → has a.set m ≡ true → x ≡ get_or a.cuts m no_cut → d ≡ higher c x → d ≡ tops (cut_or_none a) (m + 1)
  unfolding cut_or_none agrees
  lowers_with x d t e q = tops_more (cut_or_none a) m c x d p (rw t e) q

  pub lowers_without : has a.set m ≡ false → c ≡ tops (cut_or_none a) (m + 1)
  unfolding cut_or_none agrees
  lowers_without t = tops_more (cut_or_none a) m c no_cut c p (rw t refl) (sym (higher_none (cut_or_none a) m c p))

-- what the members of T below p have for r
pub lower_is : (a : Agreement) (p r : ℕ) → r < 8 → count_of (tops (cut_or_none a) p) r ≡ lower (agrees a) (cut_in a) p r
unfolding lower cut_or_none cut_in
lower_is a p r l =
    tops_at (cut_or_none a) p r l
    ∙ largest_same (λ m. count_of (cut_or_none a m) r) (λ k. cond (agrees a k) (cut_in a k r) 0) p (λ k m. count_or_none (agrees a k) (get_or a.cuts k no_cut) r)

pub higher_at : (a b : Cut) (r : ℕ) → r < 8 → count_of (higher a b) r ≡ max (count_of a r) (count_of b r)
unfolding higher count_of
higher_at a b r l = list_at (λ r. max (count_of a r) (count_of b r)) 8 r 0 l
