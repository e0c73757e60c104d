use Rattle.std.proofs.Common.{◌≡◌, map, take}
use Rattle.run_world.proofs.world.values_of.Given as goal

abbrev pub invariant-loop-reply : goal.invariant-loop-reply
invariant-loop-reply l = l.values ≡ map (λ reply. reply.values) (take l.reply-index l.replies)
