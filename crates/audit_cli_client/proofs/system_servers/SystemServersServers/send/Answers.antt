use Rattle.std.proofs.Common.{refl}
use Rattle.audit_cli_client.proofs.Connected.{sends_without_words}
use Rattle.audit_cli_client.proofs.system_servers.SystemServersServers.send.Goals as goal

pub returns-clause-did : goal.returns-clause-did
returns-clause-did g c = record {
  same = refl;
  each = (sends_without_words c.send_to_socket.result c.without_words.result c.without_words.ensures.same c.without_words.ensures.bad (g.F.Dialing.dials c.args.self.now.rt.now) c.args.socket.now c.args.task.seconds c.send_to_socket.ensures.sent, tt);
}
