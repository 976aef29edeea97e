-- A message of any kind fits a packet. Assumes nothing.
use Rattle.std.proofs.Common.{ℕ, zero, suc, ◌≤◌, lit≤}
use Rattle.messages.specs.Layouts.{length_of}

pub length_within : (k : ℕ) → length_of k ≤ 64
unfolding length_of
length_within zero = lit≤ tt
length_within (suc zero) = lit≤ tt
length_within (suc (suc zero)) = lit≤ tt
length_within (suc (suc (suc zero))) = lit≤ tt
length_within (suc (suc (suc (suc zero)))) = lit≤ tt
length_within (suc (suc (suc (suc (suc zero))))) = lit≤ tt
length_within (suc (suc (suc (suc (suc (suc zero)))))) = lit≤ tt
length_within (suc (suc (suc (suc (suc (suc (suc k))))))) = lit≤ tt
