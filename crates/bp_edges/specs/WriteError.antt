-- How a writer's error says what its sink answered.
use Rattle.bp_edges.specs.declared.sink.SinkError.{SinkError}
use Rattle.bp_edges.specs.declared.sink.SinkError.TheVariants.{Failed, Memory}
use Rattle.bp_edges.specs.declared.sink.WriteError.{WriteError}
use Rattle.bp_edges.specs.declared.sink.WriteError.TheVariants.{Failed as WriteFailed, Memory as WriteMemory}

-- the same cause
abbrev pub write_error : SinkError → WriteError
write_error Failed = WriteFailed
write_error Memory = WriteMemory
