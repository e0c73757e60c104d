-- Permissions: a narrowing block takes one away, a loop gives the one to break.
use Rattle.std.specs.Prelude.{true, false}
use Rattle.alloc_effects.specs.declared.allowed.Allowed.{Allowed}
use Rattle.alloc_effects.specs.declared.allowed.Narrowing.{Narrowing}
use Rattle.alloc_effects.specs.declared.allowed.Narrowing.TheVariants.{NoAlloc, NoBreak, NoReturn}

abbrev pub narrowed : Allowed → Narrowing → Allowed
narrowed a NoAlloc = record a { may_alloc = false }
narrowed a NoBreak = record a { may_break = false }
narrowed a NoReturn = record a { may_return = false }

abbrev pub looped : Allowed → Allowed
looped a = record a { may_break = true }
