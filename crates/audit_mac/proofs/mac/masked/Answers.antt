use Rattle.std.proofs.Common.{bit_xor, rules}
use Rattle.std.proofs.lemmas.List.Edits.{map_over_more}
use Rattle.audit_mac.proofs.mac.masked.Goals as goal

pub loop-byte-preserved : goal.loop-byte-preserved
loop-byte-preserved c = search (rules, map_over_more (λ byte. bit_xor byte c.args.pad))
