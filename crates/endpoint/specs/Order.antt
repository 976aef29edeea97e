-- The numbers that each step may give, in the order in which it asks for them. Assumes nothing.
use Prim.Native.Nat.{ℕ}
use mathlib.Core.List.{List, [], ◌∷◌}
use Rattle.endpoint.specs.Receive.{by_kind}
use Rattle.endpoint.specs.Steps.{Event, send, block_ok, start_change, membership_view, receive, ask_to_block, declare, announce, pass_out, sync, forward, give_out, install}

-- the numbers that a step may give, in the order in which it asks for them
unfoldable pub order : Event → List ℕ
order (send w) = 1 ∷ 5 ∷ 6 ∷ []
order block_ok = 1 ∷ 4 ∷ []
order (start_change n s) = 1 ∷ 2 ∷ 3 ∷ []
order (membership_view v) = 1 ∷ 2 ∷ 3 ∷ 4 ∷ []
order (receive q m) = 1 ∷ by_kind m.kind (2 ∷ 3 ∷ 7 ∷ []) (4 ∷ 6 ∷ 14 ∷ []) (2 ∷ 3 ∷ []) (2 ∷ 14 ∷ [])
order ask_to_block = 1 ∷ 4 ∷ []
order declare = 1 ∷ []
order announce = 1 ∷ 8 ∷ 10 ∷ []
order pass_out = 1 ∷ 4 ∷ 10 ∷ []
order sync = 1 ∷ 4 ∷ 8 ∷ []
order (forward q r) = 1 ∷ 4 ∷ 9 ∷ 10 ∷ []
order (give_out q) = 1 ∷ 2 ∷ 10 ∷ 11 ∷ []
order install = 1 ∷ 4 ∷ 9 ∷ 12 ∷ 13 ∷ 15 ∷ []
