-- The words held after one is put or some are freed, and the run of a sender whose words held are a list. Assumes nothing.
use mathlib.Core.Path.{◌≡◌, refl, sym, ◌∙◌}
use mathlib.Core.List.{List}
use mathlib.Core.Logic.{◌⊎◌, inl, inr}
use mathlib.Core.Option.{Option, none, some, some-ne-none}
use Prim.Native.Nat.{ℕ, ◌≤◌}
use native.Mathlib.Omega.{arith}
use native.Mathlib.Decide.{ℕ_discrete}
use lib.ListN.{length}
use Rattle.automaton.specs.Domain.{Domain}
use Rattle.automaton.specs.State.{Words}
use Rattle.automaton.specs.Actions.{Put, Fewer, Run}
use Rattle.automaton.proofs.Positions.{at, at_none, at_past}
use Rattle.automaton.proofs.Views.{same_or_not}

-- a word held after is one held before, or the one put
pub put_cases : {D : Domain} {words words' : Words D} {v : D.View} {r k : ℕ} {w : D.Word} → Put D words words' v r k w → (u : D.View) (q i : ℕ) (x : D.Word) → words' u q i ≡ some x
    → (words u q i ≡ some x) ⊎ ((u ≡ v) × (q ≡ r) × (i ≡ k) × (x ≡ w))
put_cases {D} {words} {words'} {v} {r} {k} {w} p u q i x e = go (same_or_not D u v) (ℕ_discrete q r) (ℕ_discrete i k)
  where
    go : Dec (u ≡ v) → Dec (q ≡ r) → Dec (i ≡ k) → (words u q i ≡ some x) ⊎ ((u ≡ v) × (q ≡ r) × (i ≡ k) × (x ≡ w))
    go (no f) b c = inl (sym (p.else u q i (λ a b c. f a)) ∙ e)
    go (yes a) (no f) c = inl (sym (p.else u q i (λ a b c. f b)) ∙ e)
    go (yes a) (yes b) (no f) = inl (sym (p.else u q i (λ a b c. f c)) ∙ e)
    go (yes a) (yes b) (yes c) = let t = p.there in inr (a, b, c, cc)

-- where nothing is held, freeing leaves nothing
pub fewer_none : (D : Domain) (words words' : Words D) → Fewer D words words' → (v : D.View) (r i : ℕ) → words v r i ≡ none → words' v r i ≡ none
fewer_none D words words' k v r i e = go (words' v r i) refl
  where
    go : (o : Option D.Word) → words' v r i ≡ o → words' v r i ≡ none
    go none f = f
    go (some w) f = absurd (some-ne-none w (sym (k v r i w f) ∙ e))

-- the run of words held as a list is its length
pub run_length : (D : Domain) (words : Words D) (v : D.View) (r k : ℕ) (xs : List D.Word) → ((i : ℕ) → words v r i ≡ at xs i) → Run D words v r k → k ≡ length xs
run_length D words v r k xs e u = go (ℕ_discrete k (length xs))
  where
    low : length xs ≤ k
    low = at_none xs k (sym (e k) ∙ u.stop)

    go : Dec (k ≡ length xs) → k ≡ length xs
    go (yes q) = q
    go (no f) = absurd (u.below (length xs) (omega (arith, low)) (e (length xs) ∙ at_past xs (length xs) (omega arith)))
