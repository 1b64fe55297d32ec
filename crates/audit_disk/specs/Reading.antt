-- A device that is only read.
use Rattle.audit_disk.specs.declared.reading.Reading.{Reading}

-- the device
abbrev pub device_read : {D : Type 0} → Reading D → D
device_read reading = reading.disk
