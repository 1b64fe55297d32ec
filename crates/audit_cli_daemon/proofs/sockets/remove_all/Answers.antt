use Rattle.std.proofs.Common.{◌≡◌, ◌∙◌, Result, Ok, Err, OnOk, OnErr, List, [], ◌∷◌, ◌++◌, length, append-nil, append_assoc, refl, ap, sym, subst, rules, arith}
use Rattle.std.specs.List.{AllByRecursion}
use Rattle.std.specs.Result.{result_and}
use Rattle.audit_cli_daemon.specs.Sockets.{IsRemoved}
use Rattle.audit_cli_daemon.specs.declared.sockets.MadeSocket.{MadeSocket}
use Rattle.audit_cli_daemon.proofs.sockets.remove_all.Goals as goal

-- what holds after two calls, of which both were made
both_ok : {A B E P Q : Type 0} (R : Type 0) (first : Result A E) (second both : Result B E) → both ≡ result_and first second → (P → Q → R) → OnOk first P → OnOk second Q → OnOk both R
both_ok {B = B} {E = E} R (Ok a) (Ok b) both is then_ p q = subst (λ (r : Result B E). OnOk r R) (sym is) (then_ p q)
both_ok {B = B} {E = E} R (Ok a) (Err e) both is then_ p q = subst (λ (r : Result B E). OnOk r R) (sym is) tt
both_ok {B = B} {E = E} R (Err e) second both is then_ p q = subst (λ (r : Result B E). OnOk r R) (sym is) tt

one_err : {A B E : Type 0} (P : Type 0) (first : Result A E) (second both : Result B E) → both ≡ result_and first second → OnErr first P → OnErr second P → OnErr both P
one_err {B = B} {E = E} P (Ok a) (Ok b) both is p q = subst (λ (r : Result B E). OnErr r P) (sym is) tt
one_err {B = B} {E = E} P (Ok a) (Err e) both is p q = subst (λ (r : Result B E). OnErr r P) (sym is) q
one_err {B = B} {E = E} P (Err e) second both is p q = subst (λ (r : Result B E). OnErr r P) (sym is) p

no_items : {A : Type 0} (xs : List A) → length xs ≡ 0 → xs ≡ []
no_items [] none = refl
no_items (x ∷ xs) none = absurd (omega (arith, none))

all_and_one : {A : Type 0} (P : A → Type 0) (xs : List A) (x : A) → AllByRecursion P xs → P x → AllByRecursion P (xs ++ x ∷ [])
all_and_one P [] x all one = (one, tt)
all_and_one P (first ∷ xs) x all one = (all.0, all_and_one P xs x all.1 one)

pub loop-socket-init : goal.loop-socket-init
loop-socket-init g c = search rules

pub loop-socket-preserved : goal.loop-socket-preserved
loop-socket-preserved g c =
    let Is = IsRemoved (g.R.SystemSockets.sockets c.args.rt.now) in
    let yielded = c.loop-socket.yielded in (
      append_assoc yielded (c.in-Some.socket ∷ []) c.next.new.self.rest.items
          ∙ ap (λ (more : List (MadeSocket g.row.R-File.Denot)). yielded ++ more) (sym c.in-Some.ensures.steps.0) ∙ c.loop-socket.invariant.0,
      both_ok (AllByRecursion Is (yielded ++ c.in-Some.socket ∷ [])) c.loop-socket.removed c.remove.result c.and-removed.result c.and-removed.ensures (λ all one. all_and_one Is yielded c.in-Some.socket all one) c.loop-socket.invariant.1 c.remove.ensures.gone,
      one_err (g.R.SystemSockets.call_failed c.args.rt.now) c.loop-socket.removed c.remove.result c.and-removed.result c.and-removed.ensures c.loop-socket.invariant.2 c.remove.ensures.failed,
    )

pub returns-clause-gone : goal.returns-clause-gone
returns-clause-gone g c =
    let none : c.loop-socket.socket-iterator.rest.items ≡ [] = no_items c.loop-socket.socket-iterator.rest.items (search rules) in
    let all : c.loop-socket.yielded ≡ c.args.sockets.items =
    sym (append-nil c.loop-socket.yielded) ∙ ap (λ (more : List (MadeSocket g.row.R-File.Denot)). c.loop-socket.yielded ++ more) (sym none) ∙ c.loop-socket.invariant.0 in
    subst (λ (made : List (MadeSocket g.row.R-File.Denot)). OnOk c.loop-socket.removed (AllByRecursion (IsRemoved (g.R.SystemSockets.sockets c.args.rt.now)) made)) all c.loop-socket.invariant.1

pub returns-clause-failed : goal.returns-clause-failed
returns-clause-failed g c = search rules
