-- What stands past the last: a sender above 7 has no records and storing for it changes nothing, and from place 32 on stands no record, whatever a count says.
-- Then storing and the search for a number, in the steps that the code makes. Assumes nothing.
use Prim.Native.Nat.{ℕ, zero, suc, ◌+◌, ◌-◌, ◌*◌, ◌≤◌, ◌<◌}
use native.Mathlib.Nat.{le_of_suc-le-suc, not-suc-le-zero}
use native.Mathlib.Omega.{arith}
use mathlib.Core.Bool.{Bool, true, false}
use mathlib.Core.List.{List, [], ◌∷◌, map}
use mathlib.Core.Path.{◌≡◌, refl, sym, ap, ◌∙◌}
use mathlib.Core.Logic.{◌≢◌}
use lib.Dec.{eqb, ltb}
use lib.ListN.{length, set, get_or, length-map, length-set, get_or-eq_default}
use Rattle.std.specs.Prelude.{Some, None, cond}
use Rattle.std.specs.Option.{unwrap_or}
use Rattle.std.specs.Prelude.{is_some}
use Rattle.std.specs.List.{CopiedTo, SameBelow, SameFrom}
use Rattle.std.proofs.lemmas.Grind.{common_steps}
use lib.Seq.{set_out, ext_get_or}
use borrow.Author.Tests.{eq-eqb, ne_eqb, lt-ltb, le-ltb, ltb-false}
use Rattle.below.specs.Below.{none_below, first_below}
use Rattle.below.proofs.Run.{find_stop, find_more, find_end}
use Rattle.below.proofs.First.{first_low}
use Rattle.records.specs.declared.Record.{Record}
use Rattle.records.specs.declared.Records.{Records}
use Rattle.records.specs.Records.{no_record, record_at, record_count, find_record, holds_record, the_record, store_record}

-- what owning an array of structs tells of its list
pub array_length : (X Y : Type 0) (f : X → Y) (l : List X) (n : ℕ) → length (map f l) ≡ n → length l ≡ n
array_length X Y f l n e = sym (length-map l f) ∙ e

-- ---- places below 32, as the code reads them: what is taken past the end does not matter

read_any : {A : Type 0} (l : List A) (i : ℕ) (d e : A) → i < length l → get_or l i d ≡ get_or l i e
read_any [] i d e h = absurd (not-suc-le-zero h)
read_any (x ∷ l) zero d e h = refl
read_any (x ∷ l) (suc i) d e h = read_any l i d e (le_of_suc-le-suc h)

module _ (rs : Records) (r k at : ℕ) (d : Record) (w : length rs.held ≡ 32) (e : at ≡ r * 4 + k) (l : at < 32) where
  pub read_at : get_or rs.held at d ≡ record_at rs r k
  unfolding record_at
  read_at = rw e (read_any rs.held (r * 4 + k) d no_record (omega arith))

-- ---- places from 32 on

pub record_past : (rs : Records) (r k : ℕ) → length rs.held ≡ 32 → 32 ≤ r * 4 + k → record_at rs r k ≡ no_record
unfolding record_at
record_past rs r k w l = get_or-eq_default rs.held no_record (omega arith)

-- ---- senders above 7

module _ (rs : Records) (r : ℕ) (w : length rs.counts ≡ 8) (b : 8 ≤ r) where
  pub count_past : record_count rs r ≡ 0
  unfolding record_count
  count_past = get_or-eq_default rs.counts 0 (omega arith)

  pub holds_past : (n : ℕ) → holds_record rs r n ≡ false
  unfolding holds_record
  holds_past n = le-ltb (find_record rs r n) (record_count rs r) (omega (arith, count_past))

pub store_past : (rs : Records) (r : ℕ) (x : Record) → length rs.held ≡ 32 → length rs.counts ≡ 8 → 8 ≤ r → rs ≡ store_record rs r x
unfolding store_record
store_past rs r x h w b =
    sym (rw (count_past rs r w b, set_out rs.held (r * 4 + 0) x (omega arith), set_out rs.counts r 1 (omega arith)) refl)

-- ---- storing, as the code does it

module _ (rs : Records) (r : ℕ) (x : Record) where
  pub store_few : record_count rs r < 4 → record { held = set rs.held (r * 4 + record_count rs r) x; counts = set rs.counts r (record_count rs r + 1) } ≡ store_record rs r x
  unfolding store_record
  store_few h = rw (lt-ltb (record_count rs r) 4 h)

-- three elements moved one place down
module _ (l m : List Record) (b : ℕ) (d : Record) (room : b + 4 ≤ length l) (len : length m ≡ length l) (moved : CopiedTo l m (b + 1) b 3) (below : SameBelow l m b) (from : SameFrom l m (b + 3)) where
  moved_three : m ≡ set (set (set l b (get_or l (b + 1) d)) (b + 1) (get_or l (b + 2) d)) (b + 2) (get_or l (b + 3) d)
  moved_three =
      ext_get_or d m (set (set (set l b (get_or l (b + 1) d)) (b + 1) (get_or l (b + 2) d)) (b + 2) (get_or l (b + 3) d)) (len ∙ sym (simp length-set))
      (λ i h. grind (arith, common_steps))

pub store_four : (rs : Records) (r : ℕ) (x : Record) (m : List Record) → length rs.held ≡ 32 → r < 8 → 4 ≤ record_count rs r → length m ≡ length rs.held
    → CopiedTo rs.held m (r * 4 + 1) (r * 4) (r * 4 + 4 - (r * 4 + 1)) → SameBelow rs.held m (r * 4) → SameFrom rs.held m (r * 4 + (r * 4 + 4 - (r * 4 + 1)))
    → record { held = set m (r * 4 + 3) x; counts = rs.counts } ≡ store_record rs r x
unfolding store_record record_at
store_four rs r x m w b h len moved below from =
    let three : r * 4 + 4 - (r * 4 + 1) ≡ 3 = omega arith in
    rw (le-ltb (record_count rs r) 4 h, moved_three rs.held m (r * 4) no_record (omega arith) len (rw three at moved) below (rw three at from)) refl

-- ---- the search for r's record with number n

abbrev pub numbered : Records → ℕ → ℕ → ℕ → Bool
numbered rs r n k = eqb (record_at rs r k).number n

pub find_low : (rs : Records) (r n : ℕ) → find_record rs r n ≤ record_count rs r
unfolding find_record
find_low rs r n = first_low (numbered rs r n) (record_count rs r)

module _ (rs : Records) (r n k : ℕ) (before : none_below (numbered rs r n) k ≡ true) where
  pub search_more : (record_at rs r k).number ≢ n → none_below (numbered rs r n) (k + 1) ≡ true
  search_more e = find_more (numbered rs r n) (record_count rs r) k (numbered rs r n k) before (ne_eqb (record_at rs r k).number n e) refl

  pub search_here : (x : Record) → k < record_count rs r → x ≡ record_at rs r k → x.number ≡ n → Some x ≡ cond (holds_record rs r n) (Some (the_record rs r n)) None
  unfolding find_record holds_record the_record
  search_here x l this e =
      let at : k ≡ first_below (numbered rs r n) (record_count rs r) =
      find_stop (numbered rs r n) (record_count rs r) k (numbered rs r n k) before (eq-eqb (record_at rs r k).number n (ap (λ y. y.number) (sym this) ∙ e)) refl l in
      rw (← at, lt-ltb k (record_count rs r) l) (ap Some this)

  pub search_end : record_count rs r ≡ k → None ≡ cond (holds_record rs r n) (Some (the_record rs r n)) None
  unfolding find_record holds_record
  search_end e =
      let at : k ≡ first_below (numbered rs r n) (record_count rs r) = find_end (numbered rs r n) (record_count rs r) k before (omega arith) (omega arith) in
      rw (← at, e, le-ltb k k (omega arith)) refl

-- ---- what was found

pub held_found : (x : Record) (b : Bool) → is_some (cond b (Some x) None) ≡ b
held_found x true = refl
held_found x false = refl

-- where none is, the search ended at the count
pub the_found : (rs : Records) (r n : ℕ) → unwrap_or (cond (holds_record rs r n) (Some (the_record rs r n)) None) (record_at rs r (record_count rs r)) ≡ the_record rs r n
unfolding holds_record the_record
the_found rs r n = go (ltb (find_record rs r n) (record_count rs r)) refl
  where
    go : (b : Bool) → ltb (find_record rs r n) (record_count rs r) ≡ b → unwrap_or (cond b (Some (record_at rs r (find_record rs r n))) None) (record_at rs r (record_count rs r)) ≡ record_at rs r (find_record rs r n)
    go true e = refl
    go false e = ap (record_at rs r) (omega (arith, ltb-false (find_record rs r n) (record_count rs r) e, find_low rs r n))
