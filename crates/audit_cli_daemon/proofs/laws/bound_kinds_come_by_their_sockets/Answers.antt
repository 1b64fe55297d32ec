use Rattle.std.specs.Prelude.{Contains}
use Rattle.std.proofs.Common.{◌∙◌, ap, subst}
use Rattle.audit_server_commit.specs.Arrivals.{appends_among}
use Rattle.audit_server_commit.specs.Heard.{daemon_terms}
use Rattle.audit_server.specs.Rights.{IsRightful}
use Rattle.audit_cli_daemon.specs.Carried.{sources_asked}
use Rattle.audit_cli_daemon.specs.Sources.{words_of}
use Rattle.audit_cli_daemon.proofs.BoundSources.{all_at, one_is_source, kind_allowed, bound_is_unreserved, unlike_reserved}
use Rattle.audit_cli_daemon.proofs.laws.bound_kinds_come_by_their_sockets.Goals as goal

pub returns : goal.returns
returns g c settings bound kind k client changes before after backlog first append bound_are there comes few are stays arrived same =
    let law = c.rights_bind_what_arrives.ensures in
    let is = ap appends_among (law.arrived k client changes before after backlog first few are stays) in
    let allowed = all_at (IsRightful client.rights) _ append (law.allowed k (daemon_terms client.rights) _ _) (subst (λ appends. Contains appends append) is arrived) in
    one_is_source kind settings.reader (sources_asked settings) settings.may_close bound client.rights (bound_are kind ∙ there) comes (kind_allowed client.rights append kind allowed same (unlike_reserved kind (bound_is_unreserved (words_of settings.writers.now) kind there)))
