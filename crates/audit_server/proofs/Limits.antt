-- What a limit has left after arrivals were taken.
use Rattle.std.proofs.Common.{◌≡◌, ◌∙◌, List, [], ◌∷◌, ◌++◌, sym, ap, subst}
use Rattle.audit_server_commit.specs.Arrivals.{Arrival}
use Rattle.audit_serve_passes.specs.declared.allowance.Allowance.{Allowance}
use Rattle.audit_serve_passes.specs.Allowance.{spent}
use Rattle.audit_server.specs.declared.limit.Limit.{Limit}
use Rattle.audit_server.specs.declared.limit.Limit.TheVariants as limit
use Rattle.audit_server.specs.Limit.{allowance_left, limit_after, IsNotAdmitted, AreAdmitted}

pub taken_append : (xs ys : List Arrival) (a b c : Limit) → AreAdmitted xs a b → AreAdmitted ys b c → AreAdmitted (xs ++ ys) a c
taken_append [] ys a b c first then_ = subst (λ (l : Limit). AreAdmitted ys l c) first then_
taken_append (x ∷ xs) ys a b c first then_ = (first.0, first.1, first.2, taken_append xs ys (limit_after first.0 a) b c first.3 then_)

pub taken_as : (a b : Limit) {xs ys : List Arrival} → xs ≡ ys → AreAdmitted xs a b → AreAdmitted ys a b
taken_as a b is taken = subst (λ (all : List Arrival). AreAdmitted all a b) is taken

-- without a limit everything is taken
pub unlimited_after : (xs : List Arrival) (left : Limit) → AreAdmitted xs limit.Unlimited left → left ≡ limit.Unlimited
unlimited_after [] left taken = taken
unlimited_after (x ∷ xs) left taken = unlimited_after xs left taken.3

pub all_admitted : {P : Type 0} (arrival : Arrival) (left : Limit) → left ≡ limit.Unlimited → IsNotAdmitted arrival left → P
all_admitted arrival left is over = absurd (cc (ap (λ (l : Limit). IsNotAdmitted arrival l) is))

pub stays_within : (xs : List Arrival) (given allowance : Allowance) (left : Limit) → AreAdmitted xs (limit.Within allowance) left → left ≡ limit.Within (allowance_left given left)
stays_within [] given allowance left taken = taken ∙ ap (λ (l : Limit). limit.Within (allowance_left given l)) (sym taken)
stays_within (x ∷ xs) given allowance left taken = stays_within xs given (spent taken.0 allowance) left taken.3
