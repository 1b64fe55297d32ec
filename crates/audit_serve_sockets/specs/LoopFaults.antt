-- Errors of a session over lines.
use Rattle.audit_text.specs.declared.fault.LinesError.{LinesError}
use Rattle.audit_text.specs.declared.fault.LinesError.TheVariants.{Read, Write, Memory}
use Rattle.audit_serve_sockets.specs.declared.loop_fault.RelayError.{RelayError}
use Rattle.audit_serve_sockets.specs.declared.loop_fault.RelayError.TheVariants as reply
use Rattle.audit_serve_sockets.specs.declared.loop_fault.LoopError.{LoopError}
use Rattle.audit_serve_sockets.specs.declared.loop_fault.LoopError.TheVariants.{Connection, Lines, BadLine, Core}

-- the error of the same name
abbrev pub of_reply : {E : Type 0} → RelayError → LoopError E
of_reply reply.Connection = Connection
of_reply (reply.Lines fault) = Lines fault

-- the errors of writing: a failed write, or refused memory
abbrev pub IsWritingError : LinesError → Type 0
IsWritingError Write = Unit {0}
IsWritingError Memory = Unit {0}
IsWritingError _ = ⊥

abbrev pub IsRelayError : RelayError → Type 0
IsRelayError reply.Connection = Unit {0}
IsRelayError (reply.Lines fault) = IsWritingError fault

-- the errors of sending replies back
abbrev pub IsSendingBackError : RelayError → Type 0
IsSendingBackError reply.Connection = Unit {0}
IsSendingBackError (reply.Lines Memory) = Unit {0}
IsSendingBackError (reply.Lines _) = ⊥

-- the errors of a reply: not of reading lines, nor of a line that spells no bytes
abbrev pub IsReplyError : {E : Type 0} → LoopError E → Type 0
IsReplyError Connection = Unit {0}
IsReplyError (Lines fault) = IsWritingError fault
IsReplyError (BadLine number) = ⊥
IsReplyError (Core error) = Unit {0}

-- the errors of sending the bytes of a line
abbrev pub IsSendingError : {E : Type 0} → LoopError E → Type 0
IsSendingError Connection = Unit {0}
IsSendingError (Lines fault) = ⊥
IsSendingError (BadLine number) = ⊥
IsSendingError (Core error) = Unit {0}

-- the errors of lines: a failed read or write, or refused memory
abbrev pub IsLineFault : LinesError → Type 0
IsLineFault Read = Unit {0}
IsLineFault Write = Unit {0}
IsLineFault Memory = Unit {0}
IsLineFault _ = ⊥

-- the errors of a session over lines
abbrev pub IsLoopError : {E : Type 0} → LoopError E → Type 0
IsLoopError Connection = Unit {0}
IsLoopError (Lines fault) = IsLineFault fault
IsLoopError (BadLine number) = Unit {0}
IsLoopError (Core error) = Unit {0}
