-- What each branch of the code gives of a definition by tests: of a view that is spent, of a word marked, of slots taken and freed.
-- Assumes nothing.
use Prim.Native.Nat.{ℕ, ◌+◌, ◌≤◌, ◌<◌}
use native.Mathlib.Nat.{le_antisymm}
use native.Mathlib.Omega.{arith}
use mathlib.Core.Bool.{Bool, true, false, not, cond, ◌&&◌, ◌||◌}
use mathlib.Core.List.{List}
use mathlib.Core.Path.{◌≡◌, refl, sym, ap, ◌∙◌}
use lib.Dec.{eqb, ltb}
use lib.ListN.{length, get_or, set}
use Rattle.std.proofs.lemmas.List.{get_or-take, length-take-le}
use lib.Seq.{set_out}
use borrow.Author.Tests.{eq-eqb, ne_eqb, le-leb, lt-leb, le-ltb, eqb-true}
use Rattle.std.specs.Prelude.{Option, Some, None, take}
use Rattle.std.specs.Option.{is_some}
use Rattle.below.specs.Below.{found, all_below, each_below}
use Rattle.below.proofs.Tests.{clash, and_right, told_not}
use Rattle.below.proofs.All.{all_more, all_stop, all_done, loop_end}
use Rattle.below.proofs.Lists.{each_step, fill_length}
use Rattle.views.specs.declared.View.{View}
use Rattle.views.specs.Views.{start_of, same}
use Rattle.marks.specs.declared.Marks.{Marks}
use Rattle.marks.specs.Marks.{marked_in, no_marks}
use Rattle.slots.specs.declared.Tag.{Tag}
use Rattle.slots.specs.declared.Slots.{Slots}
use Rattle.slots.specs.Slots.{no_tag, tag_for, marks_at, mark_in, slot_in, has_slot, freed_tag, freed, free_slot, free_in, taken, with_slot, differ_in}
use Rattle.slots.specs.Spent.{spent_by}
use Rattle.slots.specs.Fit.{slots_fit}
use Rattle.slots.proofs.Tags.{slot_in_lem, free_in_lem, differ_in_lem}
use Rattle.slots.proofs.Searches.{found_some, found_nothing, found_told}
use Rattle.slots.proofs.Elements.{any, past_tag, past_marks, alike_tags, fits_tag, differ_any, fits_any}

-- ---- spent: b is what comparing the views gave, n the start number

module _ (p : ℕ) (current : View) (latest : ℕ) (pending : Bool) (v : View) where
  pub spent_low : (b : Bool) → b ≡ same v current → v.id ≤ current.id → not b ≡ spent_by p current latest pending v
  unfolding spent_by
  spent_low b e l = rw (le-leb _ _ l, e) (go (same v current))
    where
      go : (b : Bool) → not b ≡ (not b && true)
      go true = refl
      go false = refl

  spent_high : current.id < v.id → spent_by p current latest pending v ≡ (ltb (start_of v p) latest || (eqb (start_of v p) latest && not pending))
  unfolding spent_by same
  spent_high l = rw (ne_eqb v.id current.id (λ q. omega arith), lt-leb _ _ l)

  pub spent_same : (n : ℕ) → n ≡ start_of v p → current.id < v.id → n ≡ latest → not pending ≡ spent_by p current latest pending v
  spent_same n e l q =
      rw (spent_high l, ← e, q, le-ltb latest latest (omega arith), eq-eqb latest latest refl)

  pub spent_else : (n : ℕ) → n ≡ start_of v p → current.id < v.id → (n ≡ latest → ⊥) → ltb n latest ≡ spent_by p current latest pending v
  spent_else n e l q = rw (spent_high l, ← e, ne_eqb n latest q) (go (ltb n latest))
    where
      go : (b : Bool) → b ≡ (b || false)
      go true = refl
      go false = refl

-- ---- a word marked: m is what marking in slot s gave

module _ (ss : Slots) (s r i : ℕ) where
  pub mark_here : (m : Marks) → s < length ss.marks → m ≡ marked_in (get_or ss.marks s past_marks) r i
      → record { tags = ss.tags; marks = set ss.marks s m } ≡ mark_in ss s r i
  unfolding mark_in marks_at
  mark_here m l e = rw (e, any ss.marks s past_marks no_marks l)

  pub mark_past : length ss.marks ≤ s → ss ≡ mark_in ss s r i
  unfolding mark_in
  mark_past l = rw (set_out ss.marks s (marked_in (marks_at ss s) r i) l)

-- ---- a slot taken, or v's own: o is what the search found, m what clearing gave

module _ (v : View) (ss : Slots) where
  pub take_here : (s : ℕ) (m : Marks) → Some s ≡ found 4 (free_in ss.tags) → m ≡ no_marks
      → record { tags = set ss.tags s (tag_for v); marks = set ss.marks s m } ≡ taken v ss
  unfolding taken
  take_here s m e q = rw ((found_some 4 (free_in ss.tags) s e).0, q, free_in_lem ss)

  pub take_past : ◌≡◌ {A = Option ℕ} None (found 4 (free_in ss.tags)) → length ss.tags ≡ 4 → length ss.marks ≡ 4 → ss ≡ taken v ss
  unfolding taken
  take_past e a b =
      let l : 4 ≤ free_slot ss = rw free_in_lem at (found_nothing 4 (free_in ss.tags) e) in
      rw (set_out ss.tags (free_slot ss) (tag_for v) (omega arith), set_out ss.marks (free_slot ss) no_marks (omega arith))

  module _ (o : Option ℕ) (e : o ≡ found 4 (slot_in ss.tags v)) where
    owned : has_slot ss v ≡ is_some o
    unfolding has_slot
    owned = rw (e, found_told 4 (slot_in ss.tags v), slot_in_lem ss v)

    pub with_own : is_some o ≡ true → ss ≡ with_slot v ss
    unfolding with_slot
    with_own f = rw (owned, f)

    pub with_taken : (z : Slots) → is_some o ≡ false → z ≡ taken v ss → z ≡ with_slot v ss
    unfolding with_slot
    with_taken z f t = rw (owned, f) t

-- ---- a flag lowered or kept: r is what the test of tag n gave, m the tags after n turns, y after the next

module _ (gone : View → Bool) (t : Tag) (r : Bool) (e : r ≡ (not (eqb t.used 0) && gone t.view)) where
  lowered : r ≡ true → record { view = t.view; used = 0 } ≡ freed_tag gone t
  lowered q = rw (and_right (not (eqb t.used 0)) (gone t.view) (sym e ∙ q))

  kept : r ≡ false → t ≡ freed_tag gone t
  kept q = go (eqb t.used 0) refl (gone t.view) (sym e ∙ q)
    where
      go : (b : Bool) → eqb t.used 0 ≡ b → (g : Bool) → (not b && g) ≡ false → t ≡ cond g (record { view = t.view; used = 0 }) t
      go b z false h = refl
      go true z true h = let u : t.used ≡ 0 = eqb-true t.used 0 z in rw (← u)
      go false z true h = clash refl h

module _ (gone : View → Bool) (tags : List Tag) (n : ℕ) where
  abbrev pub freed_below : List Tag
  freed_below = each_below no_tag (freed_tag gone) tags n

  below_length : length freed_below ≡ length tags
  unfolding each_below
  below_length = fill_length (λ k. freed_tag gone (get_or tags k no_tag)) tags n

module _ (gone : View → Bool) (tags m : List Tag) (four : length tags ≡ 4) (n : ℕ) (here : n < 4) (k : m ≡ freed_below gone tags n) (r : Bool)
    (e : r ≡ (not (eqb (get_or m n past_tag).used 0) && gone (get_or m n past_tag).view)) (y : List Tag) where
  turned : (t : Tag) → t ≡ freed_tag gone (get_or m n past_tag) → y ≡ set m n t → y ≡ freed_below gone tags (n + 1)
  turned t a q =
      let l : n < length m = omega (arith, ap length k ∙ below_length gone tags n ∙ four) in
      rw q (each_step no_tag (freed_tag gone) tags m n t k (a ∙ ap (freed_tag gone) (any m n past_tag no_tag l)))

  pub turn_lowered : r ≡ true → y ≡ set m n (record { view = (get_or m n past_tag).view; used = 0 }) → y ≡ freed_below gone tags (n + 1)
  turn_lowered a = turned (record { view = (get_or m n past_tag).view; used = 0 }) (lowered gone (get_or m n past_tag) r e a)

  pub turn_kept : r ≡ false → y ≡ set m n (get_or m n past_tag) → y ≡ freed_below gone tags (n + 1)
  turn_kept a q = turned (get_or m n past_tag) (kept gone (get_or m n past_tag) r e a) q

pub turn_end : (gone : View → Bool) (ss : Slots) (m : List Tag) (n : ℕ) → n ≤ 4 → 4 ≤ n → m ≡ freed_below gone ss.tags n
    → record { tags = m; marks = ss.marks } ≡ freed gone ss
unfolding freed
turn_end gone ss m n a b k = let i : n ≡ 4 = le_antisymm a b in rw (← i, ← k)

-- ---- two slots' views: r is what the test of slots s and t gave

module _ (tags : List Tag) (s : ℕ) where
  abbrev pub apart : ℕ → Bool
  apart t = not (alike_tags (get_or tags s past_tag) (get_or tags t past_tag))

-- the tags below slot s, as the code takes them
pub taken_length : (tags : List Tag) (s : ℕ) → length tags ≡ 4 → s < 4 → length (take s tags) ≡ s
taken_length tags s n l = length-take-le s tags (omega arith)

pub taken_tag : (tags : List Tag) (s t : ℕ) → t < s → get_or (take s tags) t past_tag ≡ get_or tags t past_tag
taken_tag tags s t l = get_or-take s tags t past_tag l

module _ (tags : List Tag) where
  abbrev pub apart_below : ℕ → Bool
  apart_below s = all_below (apart tags s) s

  module _ (n : length tags ≡ 4) where
    pub differ_stop : (s t : ℕ) (r : Bool) → s < 4 → t < s → r ≡ alike_tags (get_or tags s past_tag) (get_or tags t past_tag) → r ≡ true → false ≡ differ_in tags
    differ_stop s t r l m e q =
        sym (all_stop apart_below 4 s l (all_stop (apart tags s) s t m (ap not (sym e ∙ q)))) ∙ differ_any tags n

    pub differ_end : (s : ℕ) → s ≤ 4 → 4 ≤ s → all_below apart_below s ≡ true → true ≡ differ_in tags
    differ_end s a b e = loop_end apart_below 4 s a b e ∙ differ_any tags n

  pub differ_more : (s t : ℕ) (r : Bool) → r ≡ alike_tags (get_or tags s past_tag) (get_or tags t past_tag) → r ≡ false → all_below (apart tags s) t ≡ true
      → all_below (apart tags s) (t + 1) ≡ true
  differ_more s t r e q h = all_more (apart tags s) t h (ap not (sym e ∙ q))

  pub differ_next : (s t : ℕ) → t ≤ s → s ≤ t → all_below (apart tags s) t ≡ true → all_below apart_below s ≡ true → all_below apart_below (s + 1) ≡ true
  differ_next s t a b e h = all_more apart_below s h (all_done (apart tags s) s t a b e)

-- ---- the fit of all: r is what the test of slot s gave, d that of the six pairs

module _ (p : ℕ) (current : View) (latest : ℕ) (pending : Bool) (ss : Slots) where
  abbrev pub fits_at : ℕ → Bool
  fits_at s = fits_tag p current latest pending (get_or ss.tags s past_tag) (get_or ss.marks s past_marks)

  module _ (n : length ss.tags ≡ 4) (k : length ss.marks ≡ 4) (s : ℕ) where
    pub fit_stop : (r : Bool) → s < 4 → r ≡ fits_at s → not r ≡ true → false ≡ slots_fit p current latest pending ss
    unfolding slots_fit
    fit_stop r l e q = rw (← fits_any p current latest pending ss n k, all_stop fits_at 4 s l (told_not r (fits_at s) q e))

    pub fit_end : (d : Bool) → s ≤ 4 → 4 ≤ s → all_below fits_at s ≡ true → d ≡ differ_in ss.tags → d ≡ slots_fit p current latest pending ss
    unfolding slots_fit
    fit_end d a b e q =
        rw (← fits_any p current latest pending ss n k, all_done fits_at 4 s a b e) (q ∙ differ_in_lem ss)
