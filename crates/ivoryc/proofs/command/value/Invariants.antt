-- The value so far, or the greatest u64 where that is less.
use Rattle.std.proofs.Common.{◌≡◌, ◌-◌, ◌^◌, min, take}
use Rattle.iv_base.specs.Numbers.{value}
use Rattle.ivoryc.proofs.command.value.Given as goal

abbrev pub invariant-loop-digit : goal.invariant-loop-digit
invariant-loop-digit l = l.value ≡ min (value (take l.digit-index l.digits)) (2 ^ 64 - 1)
