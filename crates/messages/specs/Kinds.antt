-- The six kinds by name: the number that stands for each, as Layouts has them, and what a number names. Assumes nothing.
use Rattle.std.specs.Prelude.{◌≡◌, ℕ, ◌<◌, ◌⊎◌, Result, Ok, Err}
use Rattle.messages.specs.declared.kind.Kind.{Kind}
use Rattle.messages.specs.declared.kind.Kind.TheVariants.{View, Word, Sync, Forward, StartChange, MembershipView}
use Rattle.messages.specs.declared.Refusal.{Refusal}
use Rattle.messages.specs.declared.Refusal.TheVariants.{Malformed}

abbrev pub code_of : Kind → ℕ
code_of View = 1
code_of Word = 2
code_of Sync = 3
code_of Forward = 4
code_of StartChange = 5
code_of MembershipView = 6

-- no kind has this number
abbrev pub NoKind : ℕ → Type 0
NoKind n = (n ≡ 0) ⊎ (6 < n)

-- the number stands for the kind, or for none
abbrev pub Names : ℕ → Result Kind Refusal → Type 0
Names n (Ok kind) = n ≡ code_of kind
Names n (Err e) = NoKind n × (e ≡ Malformed)
