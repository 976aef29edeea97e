-- The words held, as the automaton sees them: after one is stored, after slots are freed, after one is taken; and the run. Assumes nothing.
use Prim.Native.Nat.{ℕ, zero, suc, ◌+◌, ◌≤◌, ◌<◌}
use native.Mathlib.Omega.{arith}
use native.Mathlib.Decide.{ℕ_discrete}
use mathlib.Core.Bool.{Bool, true, false}
use mathlib.Core.List.{List}
use mathlib.Core.Option.{none, some, none-ne-some}
use mathlib.Core.Path.{◌≡◌, refl, sym, ap, ◌∙◌}
use mathlib.Core.Logic.{⊎_elim}
use lib.ListN.{length, get_or, set}
use lib.Seq.{get_or-set_same, get_or-set_other}
use borrow.Author.Tests.{ne_eqb, lt-ltb}
use Rattle.below.proofs.Tests.{clash, side}
use Rattle.automaton.specs.Actions.{Put, Same, Fewer, Run}
use Rattle.views.specs.declared.View.{View}
use Rattle.views.specs.Views.{same}
use Rattle.views.proofs.Sameness.{same_sym, same_trans}
use Rattle.marks.specs.declared.Marks.{Marks}
use Rattle.marks.specs.Marks.{held_in, marked_in}
use Rattle.marks.proofs.Slot.{held_in_zero, held_in_out, held_in_marked, held_in_other, none_held_in, row_past, run_in_each, run_in_end}
use Rattle.slots.specs.declared.Slots.{Slots}
use Rattle.slots.specs.Slots.{place, tag_at, marks_at, slot_of, has_slot, held_word, run, mark_word, freed, has_free, taken}
use Rattle.slots.proofs.Finding.{Shaped, Respects, slot_of_lem, slot_same, has_same, held_same, held_none, for_same}
use Rattle.slots.proofs.Marking.{mark_slot, mark_own, mark_other, mark_new}
use Rattle.slots.proofs.Freeing.{freed_slot, freed_held, freed_none, freed_shaped}
use Rattle.slots.proofs.Taking.{taken_held, taken_held_apart, taken_slot_apart}
use Rattle.slots.proofs.Places.{place_low, place_only}
use Rattle.refinement.specs.Views.{Normal, normal, view_of, views}
use Rattle.refinement.specs.Abstract.{word_in}
use Rattle.refinement.proofs.Sameness.{is_normal, view_normal}

module _ (ss : Slots) (area : List ℕ) where
  -- ---- what is held

  pub word_held : (x : Normal) (r i : ℕ) → held_word ss (view_of x) r (i + 1) ≡ true → word_in ss area x r i ≡ some (get_or area (place (slot_of ss (view_of x)) r (i + 1)) 0)
  unfolding word_in
  word_held x r i h = rw h

  pub word_none : (x : Normal) (r i : ℕ) → held_word ss (view_of x) r (i + 1) ≡ false → word_in ss area x r i ≡ none
  unfolding word_in
  word_none x r i h = rw h

  pub word_is : (x : Normal) (r i w : ℕ) → word_in ss area x r i ≡ some w → held_word ss (view_of x) r (i + 1) ≡ true
  word_is x r i w e = go (held_word ss (view_of x) r (i + 1)) refl
    where
      go : (b : Bool) → held_word ss (view_of x) r (i + 1) ≡ b → held_word ss (view_of x) r (i + 1) ≡ true
      go true h = h
      go false h = absurd (none-ne-some w (sym (word_none x r i h) ∙ e))

  -- of a view v, at its normal form
  pub word_at : (v : View) (r i : ℕ) → held_word ss v r (i + 1) ≡ true → word_in ss area (normal v) r i ≡ some (get_or area (place (slot_of ss v) r (i + 1)) 0)
  word_at v r i h =
      let e = view_normal v in
      word_held (normal v) r i (held_same ss (view_of (normal v)) v e r (i + 1) ∙ h)
      ∙ ap (λ (s : ℕ). some (get_or area (place s r (i + 1)) 0)) (slot_same ss (view_of (normal v)) v e)

-- slots and areas that hold the same hold the same words
pub words_alike : (ss tt : Slots) (area bound : List ℕ) (x : Normal) (r i : ℕ)
    → held_word tt (view_of x) r (i + 1) ≡ held_word ss (view_of x) r (i + 1)
    → (held_word ss (view_of x) r (i + 1) ≡ true → get_or bound (place (slot_of tt (view_of x)) r (i + 1)) 0 ≡ get_or area (place (slot_of ss (view_of x)) r (i + 1)) 0)
    → word_in tt bound x r i ≡ word_in ss area x r i
words_alike ss tt area bound x r i h k = go (held_word ss (view_of x) r (i + 1)) refl
  where
    go : (b : Bool) → held_word ss (view_of x) r (i + 1) ≡ b → word_in tt bound x r i ≡ word_in ss area x r i
    go true e = word_held tt bound x r i (h ∙ e) ∙ ap some (k e) ∙ sym (word_held ss area x r i e)
    go false e = word_none tt bound x r i (h ∙ e) ∙ sym (word_none ss area x r i e)

module _ (ss : Slots) (shape : Shaped ss) where
  -- a held word is one of 128 of a sender 0 to 7, in a view that has a slot
  pub held_has : (v : View) (r i : ℕ) → held_word ss v r i ≡ true → has_slot ss v ≡ true
  held_has v r i h = go (has_slot ss v) refl
    where
      go : (b : Bool) → has_slot ss v ≡ b → has_slot ss v ≡ true
      go true e = e
      go false e = clash h (held_none ss v shape e r i)

  pub held_bounds : (v : View) (r i : ℕ) → held_word ss v r i ≡ true → (r < 8) × ((1 ≤ i) × (i ≤ 128))
  unfolding held_word
  held_bounds v r i h = (low, (one i h, high))
    where
      m : Marks
      m = marks_at ss (slot_of ss v)

      s_low : slot_of ss v < 4
      s_low = (slot_of_lem ss v (held_has v r i h)).0

      low : r < 8
      low = ⊎_elim (λ l. l) (λ g. clash h (none_held_in m r (row_past m r (let z = shape.rows_length (slot_of ss v) s_low in omega arith)) i)) (side r 8)

      one : (i : ℕ) → held_in m r i ≡ true → 1 ≤ i
      one zero q = clash q (held_in_zero m r)
      one (suc i) q = omega arith

      high : i ≤ 128
      high = ⊎_elim (λ l. omega arith) (λ g. clash h (held_in_out m r i (omega arith))) (side i 129)

  -- ---- one is stored

  module _ (area : List ℕ) (v : View) (r k w : ℕ) (long : length area ≡ 4096) (has : has_slot ss v ≡ true) (hr : r < 8) (hk : k < 128) where
    abbrev ss' : Slots
    ss' = mark_word ss v r (k + 1)

    abbrev area' : List ℕ
    area' = set area (place (slot_of ss v) r (k + 1)) w

    fits : place (slot_of ss v) r (k + 1) < length area
    fits = let z = place_low (slot_of ss v) r (k + 1) (slot_of_lem ss v has).0 hr (omega arith) (omega arith) in omega arith

    stored_there : word_in ss' area' (normal v) r k ≡ some w
    stored_there =
        word_at ss' area' v r k (mark_new ss v r (k + 1) shape has hr (omega arith) (omega arith))
        ∙ ap (λ (s : ℕ). some (get_or area' (place s r (k + 1)) 0)) (mark_slot ss v r (k + 1) v)
        ∙ ap some (get_or-set_same area (place (slot_of ss v) r (k + 1)) w 0 fits)

    -- another word's mark
    held_else : (u : View) (q j : ℕ) → (slot_of ss u ≡ slot_of ss v → q ≡ r → j ≡ k + 1 → ⊥) → held_word ss' u q j ≡ held_word ss u q j
    unfolding held_word
    held_else u q j ne =
        ap (λ (s : ℕ). held_in (marks_at ss' s) q j) (mark_slot ss v r (k + 1) u)
        ∙ go (ℕ_discrete (slot_of ss u) (slot_of ss v)) (ℕ_discrete q r) (ℕ_discrete j (k + 1))
      where
        m : Marks
        m = marks_at ss (slot_of ss v)

        own : slot_of ss u ≡ slot_of ss v → marks_at ss' (slot_of ss u) ≡ marked_in m r (k + 1)
        own e = ap (λ (s : ℕ). marks_at ss' s) e ∙ mark_own ss v r (k + 1) shape has

        back : slot_of ss u ≡ slot_of ss v → held_in m q j ≡ held_in (marks_at ss (slot_of ss u)) q j
        back e = ap (λ (s : ℕ). held_in (marks_at ss s) q j) (sym e)

        rows : r < length m.rows
        rows = let z = shape.rows_length (slot_of ss v) (slot_of_lem ss v has).0 in omega arith

        go : Dec (slot_of ss u ≡ slot_of ss v) → Dec (q ≡ r) → Dec (j ≡ k + 1) → held_in (marks_at ss' (slot_of ss u)) q j ≡ held_in (marks_at ss (slot_of ss u)) q j
        go (no f) y z = ap (λ (x : Marks). held_in x q j) (mark_other ss v r (k + 1) (slot_of ss u) f)
        go (yes e) (no f) z = ap (λ (x : Marks). held_in x q j) (own e) ∙ held_in_other m r (k + 1) q j f ∙ back e
        go (yes e) (yes f) (yes g) = absurd (ne e f g)
        go (yes e) (yes f) (no g) =
            ap (λ (x : Marks). held_in x q j) (own e)
            ∙ rw (f, held_in_marked m r (k + 1) rows (omega arith) (omega arith) j, ne_eqb j (k + 1) g) refl
            ∙ back e

    -- a view with v's slot is the same
    slot_view : (x : Normal) → slot_of ss (view_of x) ≡ slot_of ss v → x ≡ normal v
    unfolding has_slot
    slot_view x e =
        let s = slot_of ss v in
        let p = slot_of_lem ss v has in
        let l : slot_of ss (view_of x) < 4 = rw e p.0 in
        let t = slot_of_lem ss (view_of x) (lt-ltb (slot_of ss (view_of x)) 4 l) in
        let a : same (tag_at ss s).view v ≡ true = for_same ss v s p.1 in
        let b : same (tag_at ss s).view (view_of x) ≡ true = rw e at (for_same ss (view_of x) (slot_of ss (view_of x)) t.1) in
        is_normal x v (same_trans (view_of x) (tag_at ss s).view v (same_sym (tag_at ss s).view (view_of x) b) a)

    pub stored_put : Put views (word_in ss area) (word_in ss' area') (normal v) r k w
    stored_put = record { there = stored_there; else = λ x q i ne. else x q i ne }
      where
        else : (x : Normal) (q i : ℕ) → (x ≡ normal v → q ≡ r → i ≡ k → ⊥) → word_in ss' area' x q i ≡ word_in ss area x q i
        else x q i ne =
            let u = view_of x in
            words_alike ss ss' area area' x q i (held_else u q (i + 1) (λ a b c. ne (slot_view x a) b (omega arith)))
            (λ h.
            let b = held_bounds u q (i + 1) h in
            ap (λ (s : ℕ). get_or area' (place s q (i + 1)) 0) (mark_slot ss v r (k + 1) u)
            ∙ get_or-set_other area (place (slot_of ss v) r (k + 1)) (place (slot_of ss u) q (i + 1)) w 0
            (λ e. let z = place_only (slot_of ss u) q (i + 1) (slot_of ss v) r (k + 1) b.0 b.1.0 b.1.1 hr (omega arith) (omega arith) e in
            ne (slot_view x z.0) z.1.0 (let y = z.1.1 in omega arith)))

  -- ---- slots are freed

  module _ (area : List ℕ) (gone : View → Bool) (respects : Respects gone) where
    pub freed_same : (x : Normal) (r i : ℕ) → gone (view_of x) ≡ false → word_in (freed gone ss) area x r i ≡ word_in ss area x r i
    freed_same x r i n =
        words_alike ss (freed gone ss) area area x r i (freed_held gone ss shape respects (view_of x) n r (i + 1))
        (λ h. ap (λ (s : ℕ). get_or area (place s r (i + 1)) 0) (freed_slot gone ss shape respects (view_of x) n))

    pub freed_fewer : Fewer views (word_in ss area) (word_in (freed gone ss) area)
    freed_fewer x r i w e = go (gone (view_of x)) refl
      where
        go : (b : Bool) → gone (view_of x) ≡ b → word_in ss area x r i ≡ some w
        go true g =
            clash (word_is (freed gone ss) area x r i w e)
            (held_none (freed gone ss) (view_of x) (freed_shaped gone ss shape) (freed_none gone ss shape respects (view_of x) g) r (i + 1))
        go false g = sym (freed_same x r i g) ∙ e

  -- ---- one is taken

  pub taken_same : (area : List ℕ) (v : View) → has_free ss ≡ true → has_slot ss v ≡ false → Same views (word_in ss area) (word_in (taken v ss) area)
  taken_same area v free lacks x r i = go (same v (view_of x)) refl
    where
      u : View
      u = view_of x

      go : (b : Bool) → same v u ≡ b → word_in (taken v ss) area x r i ≡ word_in ss area x r i
      go true e =
          words_alike ss (taken v ss) area area x r i
          (held_same (taken v ss) u v (same_sym v u e) r (i + 1) ∙ taken_held v ss shape free lacks r (i + 1) ∙ sym (held_none ss u shape (sym (has_same ss v u e) ∙ lacks) r (i + 1)))
          (λ h. clash h (held_none ss u shape (sym (has_same ss v u e) ∙ lacks) r (i + 1)))
      go false e =
          words_alike ss (taken v ss) area area x r i (taken_held_apart v ss shape free u e r (i + 1))
          (λ h. ap (λ (s : ℕ). get_or area (place s r (i + 1)) 0) (taken_slot_apart v ss shape free u e))

-- ---- the run

pub run_of : (ss : Slots) (area : List ℕ) (v : View) (r : ℕ) → Run views (word_in ss area) (normal v) r (run ss v r)
unfolding held_word run
run_of ss area v r = record { below = below; stop = word_none ss area (normal v) r (run ss v r) (held_same ss (view_of (normal v)) v (view_normal v) r (run ss v r + 1) ∙ run_in_end (marks_at ss (slot_of ss v)) r) }
  where
    below : (i : ℕ) → i < run ss v r → word_in ss area (normal v) r i ≡ none → ⊥
    below i l e = none-ne-some _ (sym e ∙ word_at ss area v r i (run_in_each (marks_at ss (slot_of ss v)) r (i + 1) (omega arith) (omega arith)))

pub run_held : (ss : Slots) (v : View) (r i : ℕ) → i < run ss v r → held_word ss v r (i + 1) ≡ true
unfolding held_word run
run_held ss v r i l = run_in_each (marks_at ss (slot_of ss v)) r (i + 1) (omega arith) (omega arith)
