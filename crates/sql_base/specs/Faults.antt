-- Which errors are want of memory.
use Rattle.sqlite.specs.declared.error.ErrorCode.TheVariants.{OutOfMemory}
use Rattle.sqlite.specs.declared.error.Error.{Error}
use Rattle.sqlite.specs.declared.error.Error.TheVariants.{SqliteFailure}
use Rattle.sql_base.specs.declared.fault.Fault.{Fault}
use Rattle.sql_base.specs.declared.fault.Fault.TheVariants.{Failed, Memory}

abbrev pub fault_of : Error → Fault
fault_of (SqliteFailure OutOfMemory) = Memory
fault_of _ = Failed
