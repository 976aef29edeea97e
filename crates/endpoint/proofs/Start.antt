-- A fresh end-point is sound, for each of the eight numbers, and of the code's types, by computation. Assumes nothing.
use Prim.Native.Nat.{ℕ, zero, suc, ◌≤◌}
use native.Mathlib.Omega.{arith}
use mathlib.Core.Bool.{true}
use mathlib.Core.Path.{◌≡◌, refl, ap}
use lib.ListN.{length, get_or-replicate}
use Rattle.below.specs.Below.{first_below, run_below, run_from}
use Rattle.views.specs.Views.{initial}
use Rattle.slots.specs.Slots.{marks_at, taken, no_slots, free_slot, used, tag_at}
use Rattle.agreement.specs.declared.Row.{Row}
use Rattle.agreement.specs.Due.{no_marks}
use Rattle.endpoint.specs.Fresh.{fresh, fresh_slots}
use Rattle.endpoint.specs.Sound.{sound}
use Rattle.endpoint.specs.Opened.{opened}
use Rattle.endpoint.proofs.Parts.{Shaped}

pub fresh_sound : (p : ℕ) → p ≤ 7 → sound (fresh p) ≡ true
unfolding opened
fresh_sound zero h = refl
fresh_sound (suc zero) h = refl
fresh_sound (suc (suc zero)) h = refl
fresh_sound (suc (suc (suc zero))) h = refl
fresh_sound (suc (suc (suc (suc zero)))) h = refl
fresh_sound (suc (suc (suc (suc (suc zero))))) h = refl
fresh_sound (suc (suc (suc (suc (suc (suc zero)))))) h = refl
fresh_sound (suc (suc (suc (suc (suc (suc (suc zero))))))) h = refl
fresh_sound (suc (suc (suc (suc (suc (suc (suc (suc p)))))))) h = absurd (omega arith)

-- and its arrays have their lengths
pub fresh_shaped : (p : ℕ) → Shaped (fresh p)
unfolding opened
fresh_shaped p =
    record {
      slots_shaped = record { tags_length = refl; marks_length = refl; rows_length = λ s l. rows s };
      records_shaped = record { held_length = refl; counts_length = refl };
      heard_length = refl;
      received_length = refl;
      given_length = refl;
      forwarded_length = refl;
      rows_length = λ q l. ap (λ (r : Row). length r.marks) (get_or-replicate 8 q no_marks no_marks l);
    }
  where
    rows : (s : ℕ) → length (marks_at (fresh p).slots s).rows ≡ 8
    rows zero = refl
    rows (suc zero) = refl
    rows (suc (suc zero)) = refl
    rows (suc (suc (suc zero))) = refl
    rows (suc (suc (suc (suc s)))) = refl

-- the fresh slots are those of the initial view taken where all four are free
pub fresh_slots_lem : (p : ℕ) → taken (initial p) no_slots ≡ fresh_slots p
unfolding taken fresh_slots free_slot first_below run_below run_from used tag_at
fresh_slots_lem p = refl
