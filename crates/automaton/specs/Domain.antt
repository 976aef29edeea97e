-- What the end-points speak of: views and words of any kind. The source, section 3.1: "A view v is a triple consisting of an identifier v.id, a set of members v.set,
-- and a function v.startId that maps members of v to start_change identifiers. Two views are the same if they consist of identical triples." Assumes nothing.
use Rattle.std.specs.Prelude.{◌≡◌, Bool, true, ℕ}

pub record Domain : Type 1 where
  pub View : Type 0
  pub Word : Type 0
  pub id : View → ℕ
  pub has : View → ℕ → Bool
  pub start : View → ℕ → ℕ
  -- a test, so that what is computed from it is computed
  pub same : View → View → Bool
  pub same_true : (u v : View) → same u v ≡ true → u ≡ v
  pub same_self : (u : View) → same u u ≡ true
