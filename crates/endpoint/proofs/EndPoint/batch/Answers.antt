-- `batch` meets its contract: refused by its checks, or so many words copied. Assumes nothing.
use native.Mathlib.Omega.{arith}
use mathlib.Core.Path.{◌≡◌, ap, ◌∙◌}
use lib.ListN.{length}
use borrow.Author.Rules.{rules}
use Rattle.marks.proofs.Slot.{array_length}
use Rattle.endpoint.specs.declared.Place.{Place}
use Rattle.endpoint.proofs.Refusals.{refusal_number}
use Rattle.endpoint.proofs.Batching.{fit_batch, batch_refused, batch_kept, words_fit_lem, batch_done, batch_copied}
use Rattle.endpoint.proofs.EndPoint.batch.Goals as goal

pub bounds-self-q : goal.bounds-self-q
bounds-self-q c =
    let a = c.args in
    (fit_batch a.self a.area.now a.q c.in-Ok.ensures.0).low

pub copy_words-requires : goal.copy_words-requires
copy_words-requires c =
    let a = c.args in
    let z = c.in-Ok.ensures.0 in
    let p = c.in-Ok.ensures.1 in
    let f = fit_batch a.self a.area.now a.q z in
    let i = ap (λ (x : Place). x.index) p in
    let s = ap (λ (x : Place). x.slot) p in
    let k = words_fit_lem a.self a.area.now a.q z (length a.out.now) c.room_for-count.result (c.room_for-count.ensures ∙ rw i) in
    (f.whole, (omega (arith, f.slot_low), (f.low, (k, omega arith))))

pub bounds-self-q-2 : goal.bounds-self-q-2
bounds-self-q-2 c =
    let a = c.args in
    (fit_batch a.self a.area.now a.q c.in-Ok.ensures.0).low

pub returns-in-Err : goal.returns-in-Err
returns-in-Err c =
    let a = c.args in
    let k = c.in-Err.ensures in
    let z = refusal_number c.in-Err.refusal in
    (rw c.from.ensures (batch_refused a.self a.area.now a.q _ k z (length a.out.now)), batch_kept a.self a.area.now a.q _ k z a.out.now)

pub returns : goal.returns
returns c =
    let a = c.args in
    let y : length a.self.given ≡ 8 = search (rules, array_length) in
    let z = c.in-Ok.ensures.0 in
    let p = c.in-Ok.ensures.1 in
    let i = ap (λ (x : Place). x.index) p in
    let s = ap (λ (x : Place). x.slot) p in
    let h = c.room_for-count.ensures ∙ rw i in (
      rw c.from-2.ensures (batch_done a.self a.area.now a.q z (length a.out.now) c.room_for-count.result h y),
      c.copy_words.ensures ∙ rw s (batch_copied a.self a.area.now a.q z a.out.now c.room_for-count.result h y),
    )
