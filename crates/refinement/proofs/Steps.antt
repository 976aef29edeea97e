-- Every accepted step of an end-point is an action of the automaton on what it sees of it. Assumes nothing but a sound end-point of the code's types.
use Prim.Native.Nat.{ℕ}
use mathlib.Core.List.{List}
use mathlib.Core.Bool.{true}
use mathlib.Core.Path.{◌≡◌}
use Rattle.endpoint.specs.declared.EndPoint.{EndPoint}
use Rattle.endpoint.specs.Sound.{sound}
use Rattle.endpoint.specs.Receive.{receive_checks}
use Rattle.endpoint.specs.Steps.{Event, send, block_ok, start_change, membership_view, receive, ask_to_block, declare, announce, pass_out, sync, forward, give_out, install, checks, step}
use Rattle.endpoint.proofs.Parts.{Parts, Shaped, parts_of}
use Rattle.endpoint.proofs.Kept.{Passed, step_passed}
use Rattle.group.specs.Logs.{Log}
use Rattle.refinement.specs.Abstract.{Ghost}
use Rattle.refinement.proofs.Parts.{received}
use Rattle.refinement.proofs.Plain.{Counts, Listed, Refined, ref_send, ref_block_ok, ref_ask, ref_membership, ref_declare, ref_announce, ref_pass, ref_start, ref_give, ref_sync, ref_forward, ref_install}
use Rattle.refinement.proofs.Receiving.{ref_receive}

passed_refines : (ev : Event) (e : EndPoint) (area : List ℕ) (l : Log) (g : Ghost) → Shaped e → Parts e → Counts e g → Listed l g → Passed (checks ev e area) → Refined ev e area l g
unfolding checks receive_checks
passed_refines (send w) e area l g h p k m c = ref_send e area l g h p k m w c
passed_refines block_ok e area l g h p k m c = ref_block_ok e area l g h p k m
passed_refines (start_change n s) e area l g h p k m c = ref_start e area l g h p k m n s c
passed_refines (membership_view v) e area l g h p k m c = ref_membership e area l g h p k m v
passed_refines (receive q x) e area l g h p k m c = let r = received e area q x c.0 in ref_receive e area l g h p k m q r.q_low r.q_other x c
passed_refines ask_to_block e area l g h p k m c = ref_ask e area l g h p k m c
passed_refines declare e area l g h p k m c = ref_declare e area l g h p k m
passed_refines announce e area l g h p k m c = ref_announce e area l g h p k m c
passed_refines pass_out e area l g h p k m c = ref_pass e area l g h p k m c
passed_refines sync e area l g h p k m c = ref_sync e area l g h p k m c
passed_refines (forward q r) e area l g h p k m c = ref_forward e area l g h p k m q r c
passed_refines (give_out q) e area l g h p k m c = ref_give e area l g h p k m q c
passed_refines install e area l g h p k m c = ref_install e area l g h p k m c

pub step_refines : (ev : Event) (e : EndPoint) (area : List ℕ) (l : Log) (g : Ghost) → Shaped e → sound e ≡ true → Counts e g → Listed l g → (step ev e area).number ≡ 0 → Refined ev e area l g
step_refines ev e area l g h s k m z = passed_refines ev e area l g h (parts_of e s) k m (step_passed ev e area z)
