-- What the reader and the writer by a field area answer, as results: where the area is none, where the kind is none, where all is read. Assumes nothing.
use Prim.Native.Nat.{ℕ}
use mathlib.Core.Bool.{and-false}
use mathlib.Core.List.{List}
use mathlib.Core.Path.{◌≡◌, refl, subst}
use lib.ListN.{length, get_or}
use borrow.Author.Tests.{eq-eqb, ne_eqb}
use Rattle.std.specs.Prelude.{Ok, Err}
use Rattle.messages.specs.declared.Refusal.TheVariants.{NotFields, Malformed}
use Rattle.messages.specs.Kinds.{NoKind}
use Rattle.messages.specs.Fields.{is_row, message_of, read_number, fields_read}
use Rattle.messages.specs.Refusals.{IsRead, IsWritten}
use Rattle.messages.proofs.Tested.{kindless}
use Rattle.messages.proofs.Rows.{unread_row, unwritten_row, unwritten_kind}

module _ (bs fs : List ℕ) where
  pub not_read : length fs ≡ 24 → (1 ≡ read_number bs fs) × (fs ≡ fields_read bs fs) → IsRead {T = Unit {0}} (Err Malformed) bs fs fs
  unfolding is_row
  not_read l p = record { number = p.0; left = p.1; reason = rw (eq-eqb (length fs) 24 l) refl }

  pub not_fields : (length fs ≡ 24 → ⊥) → IsRead {T = Unit {0}} (Err NotFields) bs fs fs
  unfolding is_row
  not_fields h = let p = unread_row bs fs h in record { number = p.0; left = p.1; reason = rw (ne_eqb (length fs) 24 h) refl }

  pub now_read : (out : List ℕ) → (0 ≡ read_number bs fs) × (out ≡ fields_read bs fs) → IsRead {T = Unit {0}} (Ok tt) bs fs out
  now_read out p = record { number = p.0; left = p.1; reason = tt }

module _ (fs area : List ℕ) where
  pub not_row : (length fs ≡ 24 → ⊥) → IsWritten {T = Unit {0}} (Err NotFields) fs area area
  unfolding is_row
  not_row h = let p = unwritten_row fs area h in record { number = p.0; left = p.1; reason = rw (ne_eqb (length fs) 24 h) refl }

  -- row is the area, as an array
  pub not_kind : (row : List ℕ) → row ≡ fs → length fs ≡ 24 → NoKind (get_or row 0 0) → IsWritten {T = Unit {0}} (Err Malformed) fs area area
  unfolding is_row message_of
  not_kind row e l h =
      let k : NoKind (get_or fs 0 0) = subst (λ xs. NoKind (get_or xs 0 0)) e h in
      let p = unwritten_kind fs area l k in
      record { number = p.0; left = p.1; reason = rw (eq-eqb (length fs) 24 l, kindless (message_of fs) k, and-false) refl }
