use Rattle.std.proofs.Common.{inl, inr, Ok, refl}
use Rattle.audit_cli_disclosure.proofs.disclosing.choose_at.Goals as goal

pub returns : goal.returns
returns g c = (
  Ok record { first = g.F.Export.Read.remaining c.in_ok-readers.readers.first; second = g.F.Export.Read.remaining c.in_ok-readers.readers.second },
  (
    c.in-Err.fault,
    refl,
    record {
      found = c.in-Err.ensures.fault;
      read = λ is. elim (c.in-Err.ensures.read is) [
        | inl gave ↦ inl record { left = g.F.Export.Read.remaining c.disclose.new.first; reader = c.disclose.new.first; given_up = gave }
        | inr gave ↦ inr record { left = g.F.Export.Read.remaining c.disclose.new.second; reader = c.disclose.new.second; given_up = gave }
      ];
    },
  ),
  c.in_ok-readers.ensures.did,
)
