use Rattle.std.proofs.Common.{rules, ◌≡◌, ◌+◌, ◌∷◌, ◌++◌, ◌∙◌, ap, length, take, append_assoc}
use Rattle.std.specs.Int.{w32, w64, to_be_bytes}
use Rattle.audit_c.proofs.requests.put_body.Goals as goal

pub returns-in-Append : goal.returns-in-Append
returns-in-Append c =
    let front = take 2 c.args.frame.now in
    let head = 1 ∷ to_be_bytes w32 c.in-Append.tag in
    let kind = to_be_bytes w32 c.in-Append.kind in
    let payload = c.in-Append.payload.now in
    let long : 2 + length (head ++ (kind ++ payload)) ≡ 11 + length payload = search rules in
    let kinds : take 11 c.put.new.frame ≡ take 7 c.put_head.new.frame ++ kind = rw c.to_be_bytes.ensures at c.put.ensures.front in
    rw c.in-Append.is (ap (λ n. take n c.put-in-Append.new.frame) long
    ∙ c.put-in-Append.ensures.front
    ∙ ap (λ bytes. bytes ++ payload) (kinds ∙ ap (λ bytes. bytes ++ kind) c.put_head.ensures.front)
    ∙ append_assoc (front ++ head) kind payload
    ∙ append_assoc front head (kind ++ payload))

pub returns-in-PlacedAppend : goal.returns-in-PlacedAppend
returns-in-PlacedAppend c =
    let front = take 2 c.args.frame.now in
    let head = 9 ∷ to_be_bytes w32 c.in-PlacedAppend.tag in
    let kind = to_be_bytes w32 c.in-PlacedAppend.kind in
    let place = to_be_bytes w64 c.in-PlacedAppend.place in
    let payload = c.in-PlacedAppend.payload.now in
    let long : 2 + length (head ++ (kind ++ (place ++ payload))) ≡ 19 + length payload = search rules in
    let kinds : take 11 c.put-in-PlacedAppend.new.frame ≡ take 7 c.put_head-in-PlacedAppend.new.frame ++ kind = rw c.to_be_bytes-in-PlacedAppend.ensures at c.put-in-PlacedAppend.ensures.front in
    let places : take 19 c.put-in-PlacedAppend-2.new.frame ≡ take 11 c.put-in-PlacedAppend.new.frame ++ place = rw c.to_be_bytes-in-PlacedAppend-2.ensures at c.put-in-PlacedAppend-2.ensures.front in
    rw c.in-PlacedAppend.is (ap (λ n. take n c.put-in-PlacedAppend-3.new.frame) long
    ∙ c.put-in-PlacedAppend-3.ensures.front
    ∙ ap (λ bytes. bytes ++ payload) (places ∙ ap (λ bytes. bytes ++ place) (kinds ∙ ap (λ bytes. bytes ++ kind) c.put_head-in-PlacedAppend.ensures.front))
    ∙ append_assoc ((front ++ head) ++ kind) place payload
    ∙ append_assoc (front ++ head) kind (place ++ payload)
    ∙ append_assoc front head (kind ++ (place ++ payload)))
