-- What is said of the tags or of a slot by its number is what Slots says of a view.
-- Assumes nothing.
use Prim.Native.Nat.{ℕ}
use mathlib.Core.Path.{◌≡◌, refl}
use Rattle.views.specs.declared.View.{View}
use Rattle.slots.specs.declared.Slots.{Slots}
use Rattle.slots.specs.Slots.{tag_at, used, is_for, slot_of, slot_in, free_slot, free_in, mark_word, mark_in, slots_differ, differ_in}

pub slot_in_lem : (ss : Slots) (v : View) → slot_in ss.tags v ≡ slot_of ss v
unfolding slot_in slot_of is_for used tag_at
slot_in_lem ss v = refl

pub free_in_lem : (ss : Slots) → free_in ss.tags ≡ free_slot ss
unfolding free_in free_slot used tag_at
free_in_lem ss = refl

pub differ_in_lem : (ss : Slots) → differ_in ss.tags ≡ slots_differ ss
unfolding differ_in slots_differ used tag_at
differ_in_lem ss = refl

pub mark_in_lem : (ss : Slots) (v : View) (r i : ℕ) → mark_word ss v r i ≡ mark_in ss (slot_of ss v) r i
unfolding mark_word mark_in
mark_in_lem ss v r i = refl
