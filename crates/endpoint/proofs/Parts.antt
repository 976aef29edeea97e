-- Sound by its clauses, and an end-point of the code's types: what each step's proof of soundness starts from and has to give. Assumes nothing.
use Prim.Native.Nat.{ℕ, ◌≤◌, ◌<◌}
use mathlib.Core.Bool.{Bool, true, false, ◌&&◌, ◌||◌}
use mathlib.Core.Path.{◌≡◌, refl}
use lib.Dec.{eqb, leb}
use lib.ListN.{length, get_or}
use borrow.Author.Tests.{leb-true, le-leb, eqb-true}
use Rattle.below.proofs.Tests.{clash, and_both, and_left, and_right}
use Rattle.below.proofs.All.{all_each, all_of}
use Rattle.records.proofs.Store as Records
use Rattle.slots.proofs.Finding as Slots
use Rattle.endpoint.specs.declared.EndPoint.{EndPoint}
use Rattle.agreement.specs.Due.{no_marks}
use Rattle.endpoint.specs.Sound.{all_others, flags_ok, views_ok, own_member, counts_ok, records_ok, slots_ok, heard_ok, given_ok, sound}

-- ---- of two that are not either, neither is

pub neither : (a b : Bool) → (a || b) ≡ false → (a ≡ false) × (b ≡ false)
neither true b e = clash {b = true} refl e
neither false b e = (refl, e)

-- ---- the clauses

pub record Parts (e : EndPoint) : Type 0 where
  pub low : e.me ≤ 7
  pub flags : flags_ok e ≡ true
  pub views : views_ok e ≡ true
  pub member : own_member e ≡ true
  pub counts : counts_ok e ≡ true
  pub records : records_ok e ≡ true
  pub slots : slots_ok e ≡ true
  pub heard : heard_ok e ≡ true
  pub given : given_ok e ≡ true

pub parts_of : (e : EndPoint) → sound e ≡ true → Parts e
unfolding sound
parts_of e s =
    let i = given_ok e in
    let h = heard_ok e && i in
    let g = slots_ok e && h in
    let f = records_ok e && g in
    let d = counts_ok e && f in
    let c = own_member e && d in
    let b = views_ok e && c in
    let a = flags_ok e && b in
    let sa = and_right (leb e.me 7) a s in
    let sb = and_right (flags_ok e) b sa in
    let sc = and_right (views_ok e) c sb in
    let sd = and_right (own_member e) d sc in
    let sf = and_right (counts_ok e) f sd in
    let sg = and_right (records_ok e) g sf in
    let sh = and_right (slots_ok e) h sg in
    record {
      low = leb-true e.me 7 (and_left (leb e.me 7) a s);
      flags = and_left (flags_ok e) b sa;
      views = and_left (views_ok e) c sb;
      member = and_left (own_member e) d sc;
      counts = and_left (counts_ok e) f sd;
      records = and_left (records_ok e) g sf;
      slots = and_left (slots_ok e) h sg;
      heard = and_left (heard_ok e) i sh;
      given = and_right (heard_ok e) i sh;
    }

pub sound_of : (e : EndPoint) → Parts e → sound e ≡ true
unfolding sound
sound_of e p =
    and_both (le-leb e.me 7 p.low)
    (and_both p.flags
    (and_both p.views (and_both p.member (and_both p.counts (and_both p.records (and_both p.slots (and_both p.heard p.given)))))))

-- ---- an end-point of the code's types: its arrays have their lengths

pub record Shaped (e : EndPoint) : Type 0 where
  pub slots_shaped : Slots.Shaped e.slots
  pub records_shaped : Records.Shaped e.records
  pub heard_length : length e.heard ≡ 8
  pub received_length : length e.received ≡ 8
  pub given_length : length e.given ≡ 8
  pub forwarded_length : length e.forwarded ≡ 8
  pub rows_length : (q : ℕ) → q < 8 → length (get_or e.forwarded q no_marks).marks ≡ 8

-- ---- each other sender

pub others_each : (e : EndPoint) (f : ℕ → Bool) → all_others e f ≡ true → (q : ℕ) → q < 8 → (q ≡ e.me → ⊥) → f q ≡ true
unfolding all_others
others_each e f t q l n = go (eqb q e.me) refl (all_each (λ k. eqb k e.me || f k) 8 q l t)
  where
    go : (b : Bool) → eqb q e.me ≡ b → (b || f q) ≡ true → f q ≡ true
    go true x y = absurd (n (eqb-true q e.me x))
    go false x y = y

pub others_of : (e : EndPoint) (f : ℕ → Bool) → ((q : ℕ) → q < 8 → (q ≡ e.me → ⊥) → f q ≡ true) → all_others e f ≡ true
unfolding all_others
others_of e f h = all_of (λ k. eqb k e.me || f k) 8 (λ q l. go q l (eqb q e.me) refl)
  where
    go : (q : ℕ) → q < 8 → (b : Bool) → eqb q e.me ≡ b → (b || f q) ≡ true
    go q l true x = refl
    go q l false x = h q l (λ y. clash (borrow.Author.Tests.eq-eqb q e.me y) x)
