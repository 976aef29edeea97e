-- "Four slots of eight senders of 128": where a word stands; which view a slot is for; held words and runs; freeing and taking.
-- A free slot holds no view: no definition reads what its place still has. Assumes nothing.
use Rattle.std.specs.Prelude.{ℕ, ◌+◌, ◌-◌, ◌*◌, Bool, true, not, cond, ◌&&◌, List, eqb, ltb, get_or, set, replicate}
use Rattle.below.specs.Below.{all_below, first_below, each_below}
use Rattle.views.specs.declared.View.{View}
use Rattle.views.specs.Views.{no_view, same}
use Rattle.marks.specs.declared.Marks.{Marks}
use Rattle.marks.specs.Marks.{held_in, run_in, no_gap_in, marked_in, no_marks}
use Rattle.slots.specs.declared.Tag.{Tag}
use Rattle.slots.specs.declared.Slots.{Slots}

-- "Word i (from 1) of sender r in slot s stands at s × 1024 + r × 128 + i − 1."
unfoldable pub place : ℕ → ℕ → ℕ → ℕ
place s r i = s * 1024 + r * 128 + i - 1

abbrev pub no_tag : Tag
no_tag = record { view = no_view; used = 0 }

abbrev pub tag_for : View → Tag
tag_for v = record { view = v; used = 1 }

-- all four free
abbrev pub no_slots : Slots
no_slots = record { tags = replicate 4 no_tag; marks = replicate 4 no_marks }

unfoldable pub tag_at : Slots → ℕ → Tag
tag_at ss s = get_or ss.tags s no_tag

unfoldable pub marks_at : Slots → ℕ → Marks
marks_at ss s = get_or ss.marks s no_marks

unfoldable pub used : Slots → ℕ → Bool
used ss s = eqb (tag_at ss s).used 1

-- slot s is for view v
unfoldable pub is_for : Slots → View → ℕ → Bool
is_for ss v s = used ss s && same (tag_at ss s).view v

-- the slot of v: 4 where it has none
unfoldable pub slot_of : Slots → View → ℕ
slot_of ss v = first_below (is_for ss v) 4

-- the same of the tags alone
unfoldable pub slot_in : List Tag → View → ℕ
slot_in tags v = first_below (λ s. eqb (get_or tags s no_tag).used 1 && same (get_or tags s no_tag).view v) 4

unfoldable pub has_slot : Slots → View → Bool
has_slot ss v = ltb (slot_of ss v) 4

-- word i of r in view v is held
unfoldable pub held_word : Slots → View → ℕ → ℕ → Bool
held_word ss v r i = held_in (marks_at ss (slot_of ss v)) r i

-- "The run of a sender in a view is the longest k with words 1 to k all held." In a view without a slot it is 0.
unfoldable pub run : Slots → View → ℕ → ℕ
run ss v r = run_in (marks_at ss (slot_of ss v)) r

-- word i of r in view v marked as held
unfoldable pub mark_word : Slots → View → ℕ → ℕ → Slots
mark_word ss v r i = record { tags = ss.tags; marks = set ss.marks (slot_of ss v) (marked_in (marks_at ss (slot_of ss v)) r i) }

-- word i of r in slot s marked as held
unfoldable pub mark_in : Slots → ℕ → ℕ → ℕ → Slots
mark_in ss s r i = record { tags = ss.tags; marks = set ss.marks s (marked_in (marks_at ss s) r i) }

-- "A slot is freed at the step that makes its view spent": the flag alone changes
abbrev pub freed_tag : (View → Bool) → Tag → Tag
freed_tag gone t = cond (gone t.view) (record { view = t.view; used = 0 }) t

unfoldable pub freed : (View → Bool) → Slots → Slots
freed gone ss = record { tags = each_below no_tag (freed_tag gone) ss.tags 4; marks = ss.marks }

-- the lowest free slot: 4 where there is none
unfoldable pub free_slot : Slots → ℕ
free_slot ss = first_below (λ s. not (used ss s)) 4

-- the same of the tags alone
unfoldable pub free_in : List Tag → ℕ
free_in tags = first_below (λ s. not (eqb (get_or tags s no_tag).used 1)) 4

unfoldable pub has_free : Slots → Bool
has_free ss = ltb (free_slot ss) 4

-- "A new slot is the lowest free one, its marks cleared."
unfoldable pub taken : View → Slots → Slots
taken v ss = record { tags = set ss.tags (free_slot ss) (tag_for v); marks = set ss.marks (free_slot ss) no_marks }

-- v's own slot, or a new one
unfoldable pub with_slot : View → Slots → Slots
with_slot v ss = cond (has_slot ss v) ss (taken v ss)

-- ---- what sound asks of slots

-- f holds of the view of each slot in use
unfoldable pub all_used : (View → Bool) → Slots → Bool
all_used f ss = all_below (λ s. cond (used ss s) (f (tag_at ss s).view) true) 4

-- "its slots hold different views"
unfoldable pub slots_differ : Slots → Bool
slots_differ ss = all_below (λ s. all_below (λ t. not (used ss s && (used ss t && same (tag_at ss s).view (tag_at ss t).view))) s) 4

-- the same of the tags alone
unfoldable pub differ_in : List Tag → Bool
differ_in tags =
    all_below
    (λ s. all_below (λ t. not (eqb (get_or tags s no_tag).used 1 && (eqb (get_or tags t no_tag).used 1 && same (get_or tags s no_tag).view (get_or tags t no_tag).view))) s)
    4

-- "in each slot p's own held words have no gap from word 1"
unfoldable pub no_gaps : Slots → ℕ → Bool
no_gaps ss p = all_below (λ s. cond (used ss s) (no_gap_in (marks_at ss s) p) true) 4
