use Rattle.std.specs.Prelude.{codes}
use Rattle.std.specs.Fmt.{decimal}
use Rattle.std.proofs.Common.{◌≡◌, ◌∙◌, ℕ, List, [], ◌∷◌, ◌++◌, length, ap}
use Rattle.std.proofs.lemmas.Result.{on_ok_weaker}
use Rattle.json.specs.Print.{print}
use Rattle.json.specs.Token.{Token, begin_object, end_object, key, number}
use Rattle.audit_cli_disclosure.proofs.SealedTokens.{json_written, line_ended, sealed_tokens}
use Rattle.audit_cli_disclosure.proofs.lines.push_sealed_json.Goals as goal

pub returns : goal.returns
returns c =
    let begun = c.in_ok-begin_object.ensures.ok ∙ ap (λ (ts : List Token). ts ++ begin_object ∷ []) c.new-writer.ensures.tokens in
    let index = c.in_ok-write_member.ensures.written ∙ ap (λ (ts : List Token). ts ++ key (codes "index") ∷ number (decimal c.args.index) ∷ []) begun in
    let kind = c.in_ok-write_member-2.ensures.written
    ∙ ap (λ (k : ℕ). c.write_member.new.writer.tokens ++ key (codes "kind") ∷ number (decimal k) ∷ []) (c.from.ensures ∙ c.kind.ensures.kind)
    ∙ ap (λ (ts : List Token). ts ++ key (codes "kind") ∷ number (decimal c.args.view.now.kind) ∷ []) index in
    let sealed = c.in_ok-write_member-3.ensures.written
    ∙ ap (λ (cipher : List ℕ). c.write_member-2.new.writer.tokens ++ key (codes "sealed") ∷ number (decimal (length cipher)) ∷ []) c.cipher.ensures.cipher
    ∙ ap (λ (ts : List Token). ts ++ key (codes "sealed") ∷ number (decimal (length c.args.view.now.cipher)) ∷ []) kind in
    let all : c.end_object.new.self.tokens ≡ sealed_tokens c.args.index c.args.view.now.kind (length c.args.view.now.cipher) =
    c.in_ok-end_object.ensures.ok ∙ ap (λ (ts : List Token). ts ++ end_object ∷ []) sealed in
    let before = c.in_ok-end_object.ensures.room.0 ∙ c.in_ok-write_member-3.ensures.before ∙ c.in_ok-write_member-2.ensures.before
    ∙ c.in_ok-write_member.ensures.before ∙ c.in_ok-begin_object.ensures.room.0 ∙ c.new-writer.ensures.before ∙ ap (λ v. v.items) c.replace.ensures.value in
    on_ok_weaker c.extend_from_slice.result
    (λ is. json_written c.args.index c.args.view.now.kind (length c.args.view.now.cipher) c.args.line.now.items c.into_inner.result.items c.extend_from_slice.new.self.items c.end_object.new.self.tokens all
    (c.into_inner.ensures.items ∙ ap (λ (b : List ℕ). b ++ print c.end_object.new.self.tokens) before) is)
    (line_ended c.extend_from_slice.result c.into_inner.result.items c.extend_from_slice.new.self.items c.extend_from_slice.ensures.items)
