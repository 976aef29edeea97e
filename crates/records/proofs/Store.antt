-- What `store_record` does: the lengths stay, the other senders' records stay, and of r's own what the rule of four says.
-- First the words: `Shaped`, and what each held record of a sender has; then the two cases, fewer than four held and four held; then both in one, `Kept`,
-- from which all else about r's records follows: what each held record has, and the new one has, each has afterwards. Assumes nothing.
use Prim.Native.Nat.{ℕ, zero, suc, ◌+◌, ◌*◌, ◌≤◌, ◌<◌}
use native.Mathlib.Nat.{eq-or-lt_of_le, add-zero}
use native.Mathlib.Omega.{arith}
use mathlib.Core.Bool.{Bool, true, false}
use mathlib.Core.List.{List}
use mathlib.Core.Path.{◌≡◌, refl, sym, ap, ◌∙◌}
use mathlib.Core.Logic.{◌⊎◌, inl, inr, ⊎_elim, ◌≢◌}
use lib.Dec.{eqb}
use lib.ListN.{length, set, get_or, length-set}
use lib.Seq.{get_or-set_same, get_or-set_other}
use borrow.Author.Tests.{lt-ltb, le-ltb, eqb-true, eqb-false}
use Rattle.below.specs.Below.{all_below}
use Rattle.below.proofs.Tests.{side}
use Rattle.below.proofs.All.{all_each, all_of}
use Rattle.records.specs.declared.Record.{Record}
use Rattle.records.specs.declared.Records.{Records}
use Rattle.records.specs.Records.{no_record, record_at, record_count, store_record}

-- four places for each of eight senders, as the code's arrays are
pub record Shaped (rs : Records) : Type 0 where
  pub held_length : length rs.held ≡ 32
  pub counts_length : length rs.counts ≡ 8

-- each held record of r has P
abbrev pub Each : (Record → Type 0) → Records → ℕ → Type 0
Each P rs r = (k : ℕ) → k < record_count rs r → P (record_at rs r k)

-- each held record of r passes f
abbrev pub each : (Record → Bool) → Records → ℕ → Bool
each f rs r = all_below (λ k. f (record_at rs r k)) (record_count rs r)

-- two senders are the same, or not
pub same_or_not : (s r : ℕ) → (s ≡ r) ⊎ (s ≢ r)
same_or_not s r = go (eqb s r) refl
  where
    go : (b : Bool) → eqb s r ≡ b → (s ≡ r) ⊎ (s ≢ r)
    go true e = inl (eqb-true s r e)
    go false e = inr (eqb-false s r e)

-- ---- four places written, from b on: what stands elsewhere, and in each

abbrev written : List Record → ℕ → Record → Record → Record → Record → List Record
written l b p q u v = set (set (set (set l b p) (b + 1) q) (b + 2) u) (b + 3) v

module _ (l : List Record) (b j : ℕ) (p q u v : Record) where
  written_other : j ≢ b → j ≢ b + 1 → j ≢ b + 2 → j ≢ b + 3 → get_or (written l b p q u v) j no_record ≡ get_or l j no_record
  written_other n₀ n₁ n₂ n₃ =
      get_or-set_other (set (set (set l b p) (b + 1) q) (b + 2) u) (b + 3) j v no_record n₃
      ∙ get_or-set_other (set (set l b p) (b + 1) q) (b + 2) j u no_record n₂
      ∙ get_or-set_other (set l b p) (b + 1) j q no_record n₁
      ∙ get_or-set_other l b j p no_record n₀

  module _ (fits : b + 3 < length l) where
    written_0 : j ≡ b → get_or (written l b p q u v) j no_record ≡ p
    written_0 e =
        get_or-set_other (set (set (set l b p) (b + 1) q) (b + 2) u) (b + 3) j v no_record (omega arith)
        ∙ get_or-set_other (set (set l b p) (b + 1) q) (b + 2) j u no_record (omega arith)
        ∙ get_or-set_other (set l b p) (b + 1) j q no_record (omega arith)
        ∙ rw e (get_or-set_same l b p no_record (omega arith))

    written_1 : j ≡ b + 1 → get_or (written l b p q u v) j no_record ≡ q
    written_1 e =
        get_or-set_other (set (set (set l b p) (b + 1) q) (b + 2) u) (b + 3) j v no_record (omega arith)
        ∙ get_or-set_other (set (set l b p) (b + 1) q) (b + 2) j u no_record (omega arith)
        ∙ rw e (get_or-set_same (set l b p) (b + 1) q no_record (simp length-set (omega arith)))

    written_2 : j ≡ b + 2 → get_or (written l b p q u v) j no_record ≡ u
    written_2 e =
        get_or-set_other (set (set (set l b p) (b + 1) q) (b + 2) u) (b + 3) j v no_record (omega arith)
        ∙ rw e (get_or-set_same (set (set l b p) (b + 1) q) (b + 2) u no_record (simp length-set (omega arith)))

    written_3 : j ≡ b + 3 → get_or (written l b p q u v) j no_record ≡ v
    written_3 e = rw e (get_or-set_same (set (set (set l b p) (b + 1) q) (b + 2) u) (b + 3) v no_record (simp length-set (omega arith)))

-- ---- the two cases of the definition

abbrev added : Records → ℕ → Record → Records
added rs r x = record { held = set rs.held (r * 4 + record_count rs r) x; counts = set rs.counts r (record_count rs r + 1) }

abbrev moved : Records → ℕ → Record → Records
moved rs r x = record { held = written rs.held (r * 4) (record_at rs r 1) (record_at rs r 2) (record_at rs r 3) x; counts = rs.counts }

module _ (rs : Records) (r : ℕ) (x : Record) where
  is_added : record_count rs r < 4 → store_record rs r x ≡ added rs r x
  unfolding store_record
  is_added h = rw (lt-ltb (record_count rs r) 4 h)

  is_moved : 4 ≤ record_count rs r → store_record rs r x ≡ moved rs r x
  unfolding store_record
  is_moved h = rw (le-ltb (record_count rs r) 4 h)

  -- ---- the shape, and the other senders

  pub store_shaped : Shaped rs → Shaped (store_record rs r x)
  store_shaped w =
      ⊎_elim
      (λ h. rw (is_added h) (record { held_length = simp length-set w.held_length; counts_length = simp length-set w.counts_length }))
      (λ h. rw (is_moved h) (record { held_length = simp length-set w.held_length; counts_length = w.counts_length }))
      (side (record_count rs r) 4)

  pub count_other : (s : ℕ) → s ≢ r → record_count (store_record rs r x) s ≡ record_count rs s
  unfolding record_count
  count_other s ne =
      ⊎_elim
      (λ h. rw (is_added h) (get_or-set_other rs.counts r s (record_count rs r + 1) 0 ne))
      (λ h. rw (is_moved h))
      (side (record_count rs r) 4)

  pub record_other : (s k : ℕ) → s ≢ r → k < 4 → record_at (store_record rs r x) s k ≡ record_at rs s k
  unfolding record_at
  record_other s k ne l =
      ⊎_elim
      (λ h. rw (is_added h) (get_or-set_other rs.held (r * 4 + record_count rs r) (s * 4 + k) x no_record (omega arith)))
      (λ h. rw (is_moved h)
      (written_other rs.held (r * 4) (s * 4 + k) (record_at rs r 1) (record_at rs r 2) (record_at rs r 3) x
      (omega arith) (omega arith) (omega arith) (omega arith)))
      (side (record_count rs r) 4)

  -- ---- r's own records, fewer than four held: one more, at the end

  module _ (w : Shaped rs) (b : r < 8) (h : record_count rs r < 4) where
    pub few_count : record_count (store_record rs r x) r ≡ record_count rs r + 1
    unfolding record_count
    few_count = rw (is_added h) (get_or-set_same rs.counts r (record_count rs r + 1) 0 (omega arith))

    pub few_before : (k : ℕ) → k < record_count rs r → record_at (store_record rs r x) r k ≡ record_at rs r k
    unfolding record_at
    few_before k l = rw (is_added h) (get_or-set_other rs.held (r * 4 + record_count rs r) (r * 4 + k) x no_record (omega arith))

    pub few_last : record_at (store_record rs r x) r (record_count rs r) ≡ x
    unfolding record_at
    few_last = rw (is_added h) (get_or-set_same rs.held (r * 4 + record_count rs r) x no_record (omega arith))

  -- ---- four held: each a place down, and the new one in the last

  module _ (w : Shaped rs) (b : r < 8) (h : 4 ≤ record_count rs r) where
    pub four_count : record_count (store_record rs r x) r ≡ record_count rs r
    unfolding record_count
    four_count = rw (is_moved h)

    pub four_before : (k : ℕ) → k < 3 → record_at (store_record rs r x) r k ≡ record_at rs r (k + 1)
    unfolding record_at
    four_before zero l = rw (is_moved h) (written_0 rs.held (r * 4) (r * 4 + 0) (record_at rs r 1) (record_at rs r 2) (record_at rs r 3) x (omega arith) (omega arith))
    four_before (suc zero) l = rw (is_moved h) (written_1 rs.held (r * 4) (r * 4 + 1) (record_at rs r 1) (record_at rs r 2) (record_at rs r 3) x (omega arith) refl)
    four_before (suc (suc zero)) l = rw (is_moved h) (written_2 rs.held (r * 4) (r * 4 + 2) (record_at rs r 1) (record_at rs r 2) (record_at rs r 3) x (omega arith) refl)
    four_before (suc (suc (suc k))) l = absurd (omega arith)

    pub four_last : record_at (store_record rs r x) r 3 ≡ x
    unfolding record_at
    four_last = rw (is_moved h) (written_3 rs.held (r * 4) (r * 4 + 3) (record_at rs r 1) (record_at rs r 2) (record_at rs r 3) x (omega arith) refl)

-- ---- both in one: so many of the oldest went, so many stayed, each that many places down, and the new one is last

pub record Kept (rs : Records) (r : ℕ) (x : Record) : Type 0 where
  pub gone : ℕ
  pub kept : ℕ
  pub was : record_count rs r ≡ kept + gone
  pub room : kept < 4
  pub count : record_count (store_record rs r x) r ≡ kept + 1
  pub before : (k : ℕ) → k < kept → record_at (store_record rs r x) r k ≡ record_at rs r (k + gone)
  pub last : record_at (store_record rs r x) r kept ≡ x

pub store_kept : (rs : Records) (r : ℕ) (x : Record) → Shaped rs → r < 8 → record_count rs r ≤ 4 → Kept rs r x
store_kept rs r x w b c = ⊎_elim few four (side (record_count rs r) 4)
  where
    few : record_count rs r < 4 → Kept rs r x
    few h =
        record {
          gone = 0;
          kept = record_count rs r;
          was = omega arith;
          room = h;
          count = few_count rs r x w b h;
          before = λ k l. few_before rs r x w b h k l ∙ ap (record_at rs r) (sym (add-zero k));
          last = few_last rs r x w b h;
        }

    four : 4 ≤ record_count rs r → Kept rs r x
    four h =
        record {
          gone = 1;
          kept = 3;
          was = omega arith;
          room = omega arith;
          count = omega (arith, four_count rs r x w b h);
          before = four_before rs r x w b h;
          last = four_last rs r x w b h;
        }

-- ---- what each held record of a sender has, and the new one has, each has afterwards

pub each_of : (f : Record → Bool) (rs : Records) (r : ℕ) → Each (λ y. f y ≡ true) rs r → each f rs r ≡ true
each_of f rs r h = all_of (λ k. f (record_at rs r k)) (record_count rs r) h

pub each_says : (f : Record → Bool) (rs : Records) (r : ℕ) → each f rs r ≡ true → Each (λ y. f y ≡ true) rs r
each_says f rs r e k l = all_each (λ j. f (record_at rs r j)) (record_count rs r) k l e

module _ (rs : Records) (r : ℕ) (x : Record) (w : Shaped rs) (b : r < 8) (c : record_count rs r ≤ 4) where
  pub store_has : (P : Record → Type 0) → Each P rs r → P x → Each P (store_record rs r x) r
  store_has P h p k l =
      let t = store_kept rs r x w b c in
      ⊎_elim
      (λ (q : k ≡ t.kept). rw (ap (record_at (store_record rs r x) r) q ∙ t.last) p)
      (λ q. rw (t.before k q) (h (k + t.gone) (omega (arith, t.was))))
      (eq-or-lt_of_le (let g : k ≤ t.kept = omega (arith, t.count) in g))

  pub store_each : (f : Record → Bool) → each f rs r ≡ true → f x ≡ true → each f (store_record rs r x) r ≡ true
  store_each f h p = each_of f (store_record rs r x) r (store_has (λ y. f y ≡ true) (each_says f rs r h) p)

module _ (rs : Records) (r : ℕ) (x : Record) (s : ℕ) (ne : s ≢ r) (c : record_count rs s ≤ 4) where
  pub store_has_other : (P : Record → Type 0) → Each P rs s → Each P (store_record rs r x) s
  store_has_other P h k l =
      let g : k < record_count rs s = rw (count_other rs r x s ne) at l in
      rw (record_other rs r x s k ne (omega arith)) (h k g)

  pub store_each_other : (f : Record → Bool) → each f rs s ≡ true → each f (store_record rs r x) s ≡ true
  store_each_other f h = each_of f (store_record rs r x) s (store_has_other (λ y. f y ≡ true) (each_says f rs s h))
