-- Lists read by position: at an end, after one more, and what a first part is. Assumes nothing.
use mathlib.Core.Path.{◌≡◌, refl, ap, sym, ◌∙◌}
use mathlib.Core.List.{List, [], ◌∷◌, ◌++◌}
use mathlib.Core.Logic.{◌⊎◌, inl, inr}
use mathlib.Core.Option.{Option, none, some, some-injective, none-ne-some, some-ne-none}
use Prim.Native.Nat.{ℕ, zero, suc, ◌≤◌}
use native.Mathlib.Omega.{arith}
use lib.ListN.{length, take}

-- what stands at position i, from 0
unfoldable pub at : {A : Type 0} → List A → ℕ → Option A
at [] i = none
at (x ∷ xs) zero = some x
at (x ∷ xs) (suc i) = at xs i

-- xs is a first part of zs
abbrev pub Prefix : {A : Type 0} → List A → List A → Type 0
Prefix {A} xs zs = (i : ℕ) (x : A) → at xs i ≡ some x → at zs i ≡ some x

module _ {A : Type 0} where
  -- nothing stands from the end on, and only there
  pub at_none : (xs : List A) (i : ℕ) → at xs i ≡ none → length xs ≤ i
  unfolding at
  at_none [] i e = omega arith
  at_none (x ∷ xs) zero e = absurd (some-ne-none x e)
  at_none (x ∷ xs) (suc i) e = let h = at_none xs i e in omega arith

  pub at_past : (xs : List A) (i : ℕ) → length xs ≤ i → at xs i ≡ none
  unfolding at
  at_past [] i h = refl
  at_past (x ∷ xs) zero h = absurd (omega arith)
  at_past (x ∷ xs) (suc i) h = at_past xs i (omega arith)

  pub at_append : (xs ys : List A) → Prefix xs (xs ++ ys)
  unfolding at
  at_append [] ys i w e = absurd (none-ne-some w e)
  at_append (x ∷ xs) ys zero w e = e
  at_append (x ∷ xs) ys (suc i) w e = at_append xs ys i w e

  -- with w put at the end: w stands there, and elsewhere what stood
  pub at_end : (xs : List A) (w : A) → at (xs ++ (w ∷ [])) (length xs) ≡ some w
  unfolding at
  at_end [] w = refl
  at_end (x ∷ xs) w = at_end xs w

  pub at_other : (xs : List A) (w : A) (i : ℕ) → (i ≡ length xs → ⊥) → at (xs ++ (w ∷ [])) i ≡ at xs i
  unfolding at
  at_other [] w zero h = absurd (h refl)
  at_other [] w (suc i) h = refl
  at_other (x ∷ xs) w zero h = refl
  at_other (x ∷ xs) w (suc i) h = at_other xs w i (λ e. h (ap suc e))

  pub at_cases : (xs : List A) (w : A) (i : ℕ) (x : A) → at (xs ++ (w ∷ [])) i ≡ some x → (at xs i ≡ some x) ⊎ ((i ≡ length xs) × (x ≡ w))
  unfolding at
  at_cases [] w zero x e = inr (refl, sym (some-injective w x e))
  at_cases [] w (suc i) x e = absurd (none-ne-some x e)
  at_cases (y ∷ xs) w zero x e = inl e
  at_cases (y ∷ xs) w (suc i) x e = go (at_cases xs w i x e)
    where
      go : (at xs i ≡ some x) ⊎ ((i ≡ length xs) × (x ≡ w)) → (at (y ∷ xs) (suc i) ≡ some x) ⊎ ((suc i ≡ length (y ∷ xs)) × (x ≡ w))
      go (inl h) = inl h
      go (inr h) = inr (ap suc h.0, h.1)

  pub prefix_length : (xs zs : List A) → Prefix xs zs → length xs ≤ length zs
  unfolding at
  prefix_length [] zs p = omega arith
  prefix_length (x ∷ xs) [] p = absurd (none-ne-some x (p 0 x refl))
  prefix_length (x ∷ xs) (z ∷ zs) p = let h = prefix_length xs zs (λ i w e. p (suc i) w e) in omega arith

  -- a first part is the first so many
  pub prefix_take : (xs zs : List A) → Prefix xs zs → xs ≡ take (length xs) zs
  unfolding at
  prefix_take [] zs p = refl
  prefix_take (x ∷ xs) [] p = absurd (none-ne-some x (p 0 x refl))
  prefix_take (x ∷ xs) (z ∷ zs) p =
      let hx : z ≡ x = some-injective z x (p 0 x refl) in
      let ht : xs ≡ take (length xs) zs = prefix_take xs zs (λ i w f. p (suc i) w f) in
      cc

  -- so first parts of one length are the same, and one of the whole length is the whole
  pub prefix_same : (xs ys zs : List A) → Prefix xs zs → Prefix ys zs → length xs ≡ length ys → xs ≡ ys
  prefix_same xs ys zs p q e = prefix_take xs zs p ∙ ap (λ (k : ℕ). take k zs) e ∙ sym (prefix_take ys zs q)

  pub prefix_all : (xs zs : List A) → Prefix xs zs → length xs ≡ length zs → xs ≡ zs
  prefix_all xs zs p e = prefix_same xs zs zs p (λ i w f. f) e
