-- The exit status of the process: the number of a call's status, or another where the words cannot be had.
use Rattle.std.specs.Prelude.{ℕ}
use Rattle.std.specs.declared.io.ErrorKind.{ErrorKind}
use Rattle.std.specs.declared.io.ErrorKind.TheVariants.{OutOfMemory}
use Rattle.ivoryc.specs.declared.status.Status.{Status}
use Rattle.ivoryc.specs.declared.status.Status.TheVariants as status

abbrev pub number_of : Status → ℕ
number_of status.Done = 0
number_of status.Refused = 1
number_of status.Words = 2
number_of status.ReadFault = 3
number_of status.WriteFault = 4
number_of status.Memory = 5
number_of status.TooLarge = 6
number_of status.Script = 7
number_of status.NotBuilt = 8

-- want of memory is what it is in a call; no call ends with the other number
abbrev pub number_without_words : ErrorKind → ℕ
number_without_words OutOfMemory = number_of status.Memory
number_without_words _ = 9
