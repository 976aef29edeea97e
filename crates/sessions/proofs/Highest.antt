-- Session 5 for every number: after start number 4294967295 each start change that holds 0 is 3, since no 32-bit number is newer. Assumes nothing.
use Prim.Native.Nat.{ℕ, ◌≤◌}
use mathlib.Core.Bool.{true}
use mathlib.Core.List.{List}
use mathlib.Core.Path.{◌≡◌, refl}
use borrow.Author.Tests.{le-ltb}
use Rattle.views.specs.Sets.{has}
use Rattle.endpoint.specs.Numbers.{verdict, settle}
use Rattle.endpoint.specs.Membership.{start_checks}
use Rattle.endpoint.specs.Sound.{sound}
use Rattle.endpoint.specs.Steps.{start_change, checks, step}
use Rattle.sessions.specs.Sessions.{highest}
use Rattle.sessions.specs.Opened.{opened}

highest_sound : sound highest ≡ true
unfolding opened
highest_sound = refl

highest_me : highest.me ≡ 0
unfolding opened
highest_me = refl

highest_number : highest.change.number ≡ 4294967295
unfolding opened
highest_number = refl

pub after_highest : (n s : ℕ) (area : List ℕ) → n ≤ 4294967295 → has s 0 ≡ true → (step (start_change n s) highest area).number ≡ 3
unfolding step settle checks start_checks verdict
after_highest n s area l h = rw (highest_sound, highest_me, h, highest_number, le-ltb 4294967295 n l) refl
