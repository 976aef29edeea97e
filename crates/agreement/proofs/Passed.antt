-- What one pass finds of each member and of all; and what is due by the agreement alone is what is due by the records.
-- Assumes nothing.
use Prim.Native.Nat.{ℕ, ◌<◌}
use mathlib.Core.Bool.{Bool, true, false, cond, ◌&&◌}
use mathlib.Core.List.{List}
use mathlib.Core.Path.{◌≡◌, refl, ap, ◌∙◌}
use Rattle.below.specs.Below.{largest_below}
use Rattle.below.proofs.Lists.{list_at}
use Rattle.views.specs.declared.View.{View}
use Rattle.views.specs.Views.{same}
use Rattle.views.specs.Cuts.{no_cut, count_of}
use Rattle.views.proofs.Members.{set_has}
use Rattle.records.specs.declared.Records.{Records}
use Rattle.agreement.specs.declared.agreeing.Part.TheVariants.{Outside, Unnamed, Agrees}
use Rattle.agreement.specs.declared.Row.{Row}
use Rattle.agreement.specs.Named.{named_held, named, in_both, in_t, T, named_cut, agreed}
use Rattle.agreement.specs.Agreement.{agreement, agrees, cut_in}
use Rattle.agreement.specs.Due.{due, due_above, lowest_due, owes}
use Rattle.agreement.specs.Pass.{part_of, cut_of_part, agrees_of_part, named_of_part}
use Rattle.agreement.specs.Tops.{tops}
use Rattle.agreement.proofs.Numbers.{largest_same, list_same}
use Rattle.agreement.proofs.Largest.{count_or_none}
use Rattle.agreement.proofs.Alike.{due_alike, above_alike, lowest_alike, owes_alike}

-- ---- one member

module _ (current membership : View) (rs : Records) (m : ℕ) where
  pub cut_of_is : cut_of_part (part_of current membership rs m) ≡ cond (in_t current membership rs m) (named membership rs m).cut no_cut
  unfolding part_of in_t
  cut_of_is = go (in_both current membership m) (named_held membership rs m) (same (named membership rs m).view current)
    where
      go : (b h s : Bool) → cut_of_part (cond b (cond h (cond s (Agrees (named membership rs m).cut) Outside) Unnamed) Outside) ≡ cond (b && (h && s)) (named membership rs m).cut no_cut
      go false h s = refl
      go true false s = refl
      go true true false = refl
      go true true true = refl

  pub agrees_of_is : agrees_of_part (part_of current membership rs m) ≡ in_t current membership rs m
  unfolding part_of in_t
  agrees_of_is = go (in_both current membership m) (named_held membership rs m) (same (named membership rs m).view current)
    where
      go : (b h s : Bool) → agrees_of_part (cond b (cond h (cond s (Agrees (named membership rs m).cut) Outside) Unnamed) Outside) ≡ (b && (h && s))
      go false h s = refl
      go true false s = refl
      go true true false = refl
      go true true true = refl

  pub named_of_is : named_of_part (part_of current membership rs m) ≡ cond (in_both current membership m) (named_held membership rs m) true
  unfolding part_of
  named_of_is = go (in_both current membership m) (named_held membership rs m) (same (named membership rs m).view current)
    where
      go : (b h s : Bool) → named_of_part (cond b (cond h (cond s (Agrees (named membership rs m).cut) Outside) Unnamed) Outside) ≡ cond b h true
      go false h s = refl
      go true false s = refl
      go true true false = refl
      go true true true = refl

-- ---- the whole pass

module _ (current membership : View) (rs : Records) where
  pub counts_are : tops (λ m. cut_of_part (part_of current membership rs m)) 8 ≡ (agreement current membership rs).counts
  unfolding tops agreement agreed named_cut
  counts_are =
      ap (λ l. record { counts = l }) (list_same (λ r. largest_below (λ m. count_of (cut_of_part (part_of current membership rs m)) r) 8) (agreed current membership rs) 8
      (λ r l. largest_same (λ m. count_of (cut_of_part (part_of current membership rs m)) r) (λ m. cond (in_t current membership rs m) (named_cut membership rs m r) 0) 8
      (λ m _. ap (λ c. count_of c r) (cut_of_is current membership rs m) ∙ count_or_none (in_t current membership rs m) (named membership rs m).cut r)))

  pub agrees_is : (m : ℕ) → m < 8 → agrees (agreement current membership rs) m ≡ in_t current membership rs m
  unfolding agrees agreement T
  agrees_is m l = set_has (in_t current membership rs) m l

  pub cut_is : (m r : ℕ) → m < 8 → in_t current membership rs m ≡ true → cut_in (agreement current membership rs) m r ≡ named_cut membership rs m r
  unfolding cut_in agreement named_cut
  cut_is m r l t = rw (list_at (λ m. cond (in_t current membership rs m) (named membership rs m).cut no_cut) 8 m no_cut l, t)

  pub counts_is : (r : ℕ) → r < 8 → count_of (agreement current membership rs).counts r ≡ agreed current membership rs r
  unfolding agreement count_of
  counts_is r l = list_at (agreed current membership rs) 8 r 0 l

  module _ (members p : ℕ) (lp : p < 8) where
    pub due_same : (q r i : ℕ) → q < 8 → r < 8 → due (agrees (agreement current membership rs)) (cut_in (agreement current membership rs)) members p q r i ≡ due (in_t current membership rs) (named_cut membership rs) members p q r i
    due_same = due_alike (agrees (agreement current membership rs)) (in_t current membership rs) (cut_in (agreement current membership rs)) (named_cut membership rs) agrees_is cut_is members p lp

    pub above_same : (rows : List Row) (q r i : ℕ) → q < 8 → r < 8 → due_above (agrees (agreement current membership rs)) (cut_in (agreement current membership rs)) members p rows q r i ≡ due_above (in_t current membership rs) (named_cut membership rs) members p rows q r i
    above_same = above_alike (agrees (agreement current membership rs)) (in_t current membership rs) (cut_in (agreement current membership rs)) (named_cut membership rs) agrees_is cut_is members p lp

    pub lowest_same : (rows : List Row) (held : ℕ → Bool) (q r : ℕ) → q < 8 → r < 8 → lowest_due (agrees (agreement current membership rs)) (cut_in (agreement current membership rs)) members p rows held q r ≡ lowest_due (in_t current membership rs) (named_cut membership rs) members p rows held q r
    lowest_same = lowest_alike (agrees (agreement current membership rs)) (in_t current membership rs) (cut_in (agreement current membership rs)) (named_cut membership rs) agrees_is cut_is members p lp

    pub owes_same : (rows : List Row) → owes (agrees (agreement current membership rs)) (cut_in (agreement current membership rs)) members p rows ≡ owes (in_t current membership rs) (named_cut membership rs) members p rows
    owes_same = owes_alike (agrees (agreement current membership rs)) (in_t current membership rs) (cut_in (agreement current membership rs)) (named_cut membership rs) agrees_is cut_is members p lp
