-- What a search over the tags comes to: the slot of a view, the lowest free slot; and what a found slot says.
-- Assumes nothing.
use Prim.Native.Nat.{ℕ, ◌<◌, ◌≤◌}
use mathlib.Core.Bool.{Bool, true, false, not, cond}
use mathlib.Core.List.{List}
use mathlib.Core.Path.{◌≡◌, refl, sym, ap, ◌∙◌}
use mathlib.Core.Logic.{⊎_elim}
use lib.Dec.{eqb, ltb}
use lib.ListN.{length, get_or}
use borrow.Author.Tests.{lt-ltb}
use Rattle.std.specs.Prelude.{Option, Some, None}
use Rattle.std.specs.Option.{is_some}
use Rattle.std.specs.List.{position}
use Rattle.std.proofs.lemmas.Bool.{ltb-true}
use Rattle.std.proofs.lemmas.Option.{cond_some, none-some}
use Rattle.below.specs.Below.{found, first_below}
use Rattle.below.proofs.Found.{found_in_list}
use Rattle.below.proofs.Tests.{side}
use Rattle.views.specs.declared.View.{View}
use Rattle.slots.specs.declared.Tag.{Tag}
use Rattle.slots.specs.Slots.{no_tag, slot_in, free_in}
use Rattle.slots.proofs.Elements.{for_view}

module _ (tags : List Tag) where
  pub slot_found : (v : View) → length tags ≡ 4 → position (for_view v) tags ≡ found 4 (slot_in tags v)
  unfolding slot_in
  slot_found v n = found_in_list (for_view v) no_tag tags ∙ ap (λ k. found k (first_below (λ s. for_view v (get_or tags s no_tag)) k)) n

  pub free_found : length tags ≡ 4 → position (λ t. not (eqb t.used 1)) tags ≡ found 4 (free_in tags)
  unfolding free_in
  free_found n =
      found_in_list (λ t. not (eqb t.used 1)) no_tag tags ∙ ap (λ k. found k (first_below (λ s. not (eqb (get_or tags s no_tag).used 1)) k)) n

-- ---- what a search below n that came to k says of what it found

module _ (n k : ℕ) where
  pub found_some : (s : ℕ) → Some s ≡ found n k → (s ≡ k) × (k < n)
  found_some s e = let r = cond_some (ltb k n) k s (sym e) in (sym r.1, ltb-true k n r.0)

  pub found_nothing : ◌≡◌ {A = Option ℕ} None (found n k) → n ≤ k
  found_nothing e = ⊎_elim (λ l. absurd (none-some k (rw (lt-ltb k n l) at e))) (λ l. l) (side k n)

  pub found_told : is_some (found n k) ≡ ltb k n
  found_told = go (ltb k n)
    where
      go : (b : Bool) → is_some (cond b (Some k) None) ≡ b
      go true = refl
      go false = refl
