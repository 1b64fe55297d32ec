use Rattle.std.proofs.Common.{◌∙◌, map, ap}
use Rattle.mio.specs.Net.{unix_listener_fd}
use Rattle.audit_serve_door.specs.Entrances.{socket_of}
use Rattle.audit_cli_daemon.proofs.Listening.{map_twice}
use Rattle.audit_cli_daemon.proofs.request.open_door.Goals as goal

pub returns-in-Ok-clause-sockets : goal.returns-in-Ok-clause-sockets
returns-in-Ok-clause-sockets g c = ap (map unix_listener_fd) c.in-Ok.ensures.sockets ∙ map_twice unix_listener_fd socket_of c.args.listening.entrances.items
