-- In a turn of its own a session takes a request, or all that is unread.
use Rattle.std.proofs.Common.{◌≡◌, ◌≢◌, ◌∙◌, inl, inr, ◌⊎◌, ℕ, ◌+◌, ◌-◌, ◌<◌, ◌≤◌, Bool, true, false, ◌||◌, ◌&&◌, leb, nat_eq, Option, Some, None, IfSome, List, [], ◌∷◌, ◌++◌, length, take, drop, refl, sym, ap, subst, arith, true≢false}
use Rattle.std.proofs.lemmas.Bool.{cases_Bool, eq-eqb, le-leb, leb-false, eqb-false}
use Rattle.std.proofs.lemmas.List.{append-nil, take-append-drop, drop_all, length-drop, length-take}
use Rattle.audit_serve_passes.specs.Streams.{StreamCall, bytes_read}
use Rattle.audit_serve_passes.specs.CallLaws.{bytes_read-append}
use Rattle.audit_serve_passes.specs.declared.allowance.Demand.{Demand}
use Rattle.audit_serve_passes.specs.declared.allowance.Share.{Share}
use Rattle.audit_serve_passes.specs.declared.allowance.Allowance.{Allowance}
use Rattle.audit_serve_passes.specs.Allowance.{has_room, has_room_to_ask, admits}
use Rattle.audit_serve_passes.specs.Core.{CoreModel, RequestKind, appending, asking}
use Rattle.audit_serve_passes.specs.Owing.{IsNextRequest, IsDemandFor, IsBeyondAllowance}
use Rattle.audit_serve_ready.specs.Slot.{SlotData, vacant, serving, unheard, closing, unread_of, kept_of, with_unread, is_shut, is_mute}
use Rattle.audit_serve_ready.specs.Reading.{IsShort}
use Rattle.audit_serve_ready.specs.Backlog.{MayAsk, HasTakenRequest, LacksRoom, IsPutOff, TakesUp}
use Rattle.audit_serve_ready.proofs.Accounts.{unread_put}

-- a place that is shut isn't heard
pub never_shut : {P : Type 0} {S : Type 0} (slot : SlotData S) → is_shut slot ≡ true → is_mute slot ≡ false → P
never_shut vacant shut heard = absurd (true≢false heard)
never_shut (serving client unread kept noted) shut heard = absurd (true≢false (sym shut))
never_shut (unheard client unread noted) shut heard = absurd (true≢false heard)
never_shut (closing client unread noted) shut heard = absurd (true≢false heard)

pub none_waits : (bytes : List ℕ) → (bytes ≢ [] → ⊥) → bytes ≡ []
none_waits [] some = refl
none_waits (byte ∷ bytes) some = absurd (some (λ none. cc none))

-- bytes are left between two places that differ
pub some_left : (piece : List ℕ) (start end : ℕ) → start ≤ end → end ≤ length piece → nat_eq start end ≡ false → drop start (take end piece) ≡ [] → ⊥
some_left piece start end order within apart none =
    omega (arith, order, within, eqb-false start end apart, ap length none, length-drop start (take end piece), length-take end piece)

whole_or : (x y : Bool) → x ≡ true → (x || y) ≡ true
whole_or true y is = refl
whole_or false y is = absurd (true≢false (sym is))

or_whole : (x y : Bool) → y ≡ true → (x || y) ≡ true
or_whole true y is = refl
or_whole false y is = is

both_true : (x y : Bool) → x ≡ true → y ≡ true → (x && y) ≡ true
both_true true y first second = second
both_true false y first second = absurd (true≢false (sym first))

-- whatever is asked, a whole share for questions has room
asks : (questions : Share) (price : Option ℕ) → questions.is_whole ≡ true → has_room_to_ask questions price ≡ true
asks questions None whole = refl
asks questions (Some bytes) whole = whole_or questions.is_whole (leb bytes questions.left) whole

-- an append that isn't admitted is one for which the session's share has no room
no_room : (allowance : Allowance) (demand : Demand) → demand.question ≡ None → admits allowance demand ≡ false → (allowance.session.is_whole ≡ false) × (allowance.session.left < demand.reply)
no_room allowance demand none over = by allowance.session.is_whole refl (leb demand.reply allowance.session.left) refl
  where
    asked : has_room_to_ask allowance.questions demand.question ≡ true
    asked = ap (has_room_to_ask allowance.questions) none

    by : (whole : Bool) → allowance.session.is_whole ≡ whole → (room : Bool) → leb demand.reply allowance.session.left ≡ room → (allowance.session.is_whole ≡ false) × (allowance.session.left < demand.reply)
    by true whole room is = absurd (true≢false (sym (both_true (has_room allowance.session demand.reply) (has_room_to_ask allowance.questions demand.question) (whole_or allowance.session.is_whole (leb demand.reply allowance.session.left) whole) asked) ∙ over))
    by false whole true is = absurd (true≢false (sym (both_true (has_room allowance.session demand.reply) (has_room_to_ask allowance.questions demand.question) (or_whole allowance.session.is_whole (leb demand.reply allowance.session.left) is) asked) ∙ over))
    by false whole false is = (whole, leb-false demand.reply allowance.session.left is)

-- a request that isn't admitted finds no room in the session's share, or, as a question, in that of the questions
no_room_in : (share : Share) (bytes : ℕ) → has_room share bytes ≡ false → (share.is_whole ≡ false) × (share.left < bytes)
no_room_in share bytes none = by share.is_whole refl (leb bytes share.left) refl
  where
    by : (whole : Bool) → share.is_whole ≡ whole → (room : Bool) → leb bytes share.left ≡ room → (share.is_whole ≡ false) × (share.left < bytes)
    by true whole room is = absurd (true≢false (sym (whole_or share.is_whole (leb bytes share.left) whole) ∙ none))
    by false whole true is = absurd (true≢false (sym (or_whole share.is_whole (leb bytes share.left) is) ∙ none))
    by false whole false is = (whole, leb-false bytes share.left is)

neither_room : (allowance : Allowance) (demand : Demand) → admits allowance demand ≡ false → ((allowance.session.is_whole ≡ false) × (allowance.session.left < demand.reply)) ⊎ (has_room_to_ask allowance.questions demand.question ≡ false)
neither_room allowance demand over = elim (cases_Bool (has_room allowance.session demand.reply)) [
  | inl room ↦ inr (sym (ap (λ (b : Bool). b && has_room_to_ask allowance.questions demand.question) room) ∙ over)
  | inr none ↦ inl (no_room_in allowance.session demand.reply none)
]

short_of : (questions : Share) (price : Option ℕ) (most : ℕ) → has_room_to_ask questions price ≡ false → IfSome price (λ bytes. bytes ≤ most) → questions.left < most
short_of questions None most none within = absurd (true≢false none)
short_of questions (Some bytes) most none within = omega (arith, (no_room_in questions bytes none).1, within)

module _ {C S : Type 0} (M : CoreModel C) (backlog : ℕ) where
  abbrev share_for : SlotData S → Share
  share_for slot = record { left = backlog - length (kept_of slot); is_whole = nat_eq (length (kept_of slot)) 0 }

  room_for : (slot : SlotData S) (reply : ℕ) → (kept_of slot ≡ []) ⊎ (length (kept_of slot) + M.longest ≤ backlog) → reply ≤ M.longest → has_room (share_for slot) reply ≡ true
  room_for slot reply (inl none) most = whole_or (nat_eq (length (kept_of slot)) 0) (leb reply (backlog - length (kept_of slot))) (eq-eqb (length (kept_of slot)) 0 (ap length none))
  room_for slot reply (inr room) most = or_whole (nat_eq (length (kept_of slot)) 0) (leb reply (backlog - length (kept_of slot))) (le-leb reply (backlog - length (kept_of slot)) (omega (arith, room, most)))

  -- so nothing is held back if nothing was taken of the allowance
  never_held : (k : ℕ) (core : C) (slot : SlotData S) (fed : List ℕ) (questions : Share) (left : Allowance) → MayAsk M backlog k core slot → questions.is_whole ≡ true → left ≡ record { session = share_for slot; questions = questions } → IsBeyondAllowance M k core fed (unread_of slot) left → ⊥
  never_held k core slot fed questions left may whole is held =
      true≢false (sym (both_true (has_room (share_for slot) held.demand.reply) (has_room_to_ask questions held.demand.question) (room_for slot held.demand.reply may.room held.most) (asks questions held.demand.question whole))
      ∙ sym (ap (λ (allowance : Allowance). admits allowance held.demand) is) ∙ held.over)

  pub took : (k : ℕ) (share questions : Share) (core : C) (slot : SlotData S) (taken : ℕ) (left : Allowance) → is_shut slot ≡ false → MayAsk M backlog k core slot → questions.is_whole ≡ true → share ≡ share_for slot → taken ≤ length (unread_of slot)
      → (taken < length (unread_of slot) → IsBeyondAllowance M k core (take taken (unread_of slot)) (unread_of slot) left) → (M.requests core k (take taken (unread_of slot)) ≡ [] → left ≡ record { session = share; questions = questions }) → HasTakenRequest M backlog k core slot (with_unread (drop taken (unread_of slot)) slot)
  took k share questions core slot taken left live may whole is within stops unspent = by (less_or taken (length (unread_of slot)))
    where
      bytes : List ℕ
      bytes = unread_of slot

      rest_is : unread_of (with_unread (drop taken bytes) slot) ≡ drop taken bytes
      rest_is = unread_put (drop taken bytes) slot live

      less_or : (m n : ℕ) → (m < n) ⊎ (n ≤ m)
      less_or m n = search (arith)

      some : taken < length bytes → M.requests core k (take taken bytes) ≡ [] → ⊥
      some less none = never_held k core slot (take taken bytes) questions left may whole (unspent none ∙ ap (λ (own : Share). record { session = own; questions = questions }) is) (stops less)

      by : (taken < length bytes) ⊎ (length bytes ≤ taken) → HasTakenRequest M backlog k core slot (with_unread (drop taken bytes) slot)
      by (inl less) = inr (take taken bytes, sym (take-append-drop taken bytes) ∙ ap (λ (rest : List ℕ). take taken bytes ++ rest) (sym rest_is), some less)
      by (inr all) = inl (rest_is ∙ drop_all taken bytes all)

  -- ---- what is put off

  -- a request that isn't admitted, for whose longest reply the session's share has no room
  lacks : (k : ℕ) (core : C) (slot : SlotData S) (fed : List ℕ) (questions : Share) (left : Allowance) (bytes reply : ℕ) → (M.requests core k fed ≡ [] → left ≡ record { session = share_for slot; questions = questions }) → backlog - length (kept_of slot) ≤ left.session.left + M.replies core k fed
      → bytes ≤ reply → (left.session.is_whole ≡ false) × (left.session.left < bytes) → LacksRoom M backlog k core fed slot reply
  lacks k core slot fed questions left bytes reply unspent spent most none = record {
    full = omega (arith, spent, none.1, most);
    first = λ asked kept. true≢false (sym (ap (λ (allowance : Allowance). allowance.session.is_whole) (unspent asked) ∙ eq-eqb (length (kept_of slot)) 0 (ap length kept)) ∙ none.0);
  }

  held_back : (k : ℕ) (core : C) (slot : SlotData S) (fed rest : List ℕ) (questions : Share) (left : Allowance) → unread_of slot ≡ fed ++ rest → IsBeyondAllowance M k core fed (unread_of slot) left
      → (M.requests core k fed ≡ [] → left ≡ record { session = share_for slot; questions = questions }) → backlog - length (kept_of slot) ≤ left.session.left + M.replies core k fed → IsPutOff M backlog (IsShort left.questions.left) k core fed rest slot
  held_back k core slot fed rest questions left split held unspent spent = record {
    kind = held.kind;
    is = subst (λ (bytes : List ℕ). IsNextRequest M k core fed bytes held.kind) split held.is;
    appends = λ is. append_held held.kind is held.its;
    asks = λ reply is. question_held held.kind reply is held.its;
  }
    where
      append_held : (kind : RequestKind) → kind ≡ appending → IsDemandFor M kind held.demand → LacksRoom M backlog k core fed slot M.acknowledgement
      append_held appending is its = lacks k core slot fed questions left held.demand.reply M.acknowledgement unspent spent its.0 (no_room left held.demand its.1 held.over)
      append_held (asking reply) is its = absurd (cc is)

      question_held : (kind : RequestKind) (reply : ℕ) → kind ≡ asking reply → IsDemandFor M kind held.demand → LacksRoom M backlog k core fed slot reply ⊎ (left.questions.left < reply)
      question_held appending reply is its = absurd (cc is)
      question_held (asking most) reply is its =
          let same : most ≡ reply = cc is in
          elim (neither_room left held.demand held.over) [
            | inl own ↦ inl (lacks k core slot fed questions left held.demand.reply reply unspent spent (omega (arith, its.0, same)) own)
            | inr all ↦ inr (short_of left.questions held.demand.question reply all (subst (λ (n : ℕ). IfSome held.demand.question (λ bytes. bytes ≤ n)) same its.1))
          ]

  pub put_off : (k : ℕ) (share questions : Share) (core : C) (slot : SlotData S) (taken : ℕ) (left : Allowance) → is_shut slot ≡ false → share ≡ share_for slot → (taken < length (unread_of slot) → IsBeyondAllowance M k core (take taken (unread_of slot)) (unread_of slot) left)
      → (M.requests core k (take taken (unread_of slot)) ≡ [] → left ≡ record { session = share; questions = questions }) → share.left ≤ left.session.left + M.replies core k (take taken (unread_of slot))
      → (unread_of (with_unread (drop taken (unread_of slot)) slot) ≡ []) ⊎ IsPutOff M backlog (IsShort left.questions.left) k core (take taken (unread_of slot)) (unread_of (with_unread (drop taken (unread_of slot)) slot)) slot
  put_off k share questions core slot taken left live is stops unspent spent = by (less_or taken (length (unread_of slot)))
    where
      bytes : List ℕ
      bytes = unread_of slot

      rest_is : unread_of (with_unread (drop taken bytes) slot) ≡ drop taken bytes
      rest_is = unread_put (drop taken bytes) slot live

      less_or : (m n : ℕ) → (m < n) ⊎ (n ≤ m)
      less_or m n = search (arith)

      by : (taken < length bytes) ⊎ (length bytes ≤ taken) → (unread_of (with_unread (drop taken bytes) slot) ≡ []) ⊎ IsPutOff M backlog (IsShort left.questions.left) k core (take taken bytes) (unread_of (with_unread (drop taken bytes) slot)) slot
      by (inl less) = inr (held_back k core slot (take taken bytes) (unread_of (with_unread (drop taken bytes) slot)) questions left (sym (take-append-drop taken bytes) ∙ ap (λ (rest : List ℕ). take taken bytes ++ rest) (sym rest_is)) (stops less)
          (λ none. unspent none ∙ ap (λ (own : Share). record { session = own; questions = questions }) is) (omega (arith, spent, ap (λ (own : Share). own.left) is)))
      by (inr all) = inl (rest_is ∙ drop_all taken bytes all)

  -- the same of the place as it was before a look, and of a core in which others have had their turns
  put_off_at : {AskNoMore : ℕ → Type 0} (k : ℕ) (core old : C) (fed rest : List ℕ) (between before : SlotData S) → kept_of between ≡ kept_of before → ((bytes : List ℕ) → (M.requests core k bytes ≡ M.requests old k bytes) × (M.replies core k bytes ≡ M.replies old k bytes))
      → IsPutOff M backlog AskNoMore k core fed rest between → IsPutOff M backlog AskNoMore k old fed rest before
  put_off_at k core old fed rest between before kept alone off = record {
    kind = off.kind;
    is = record { later = off.is.later; next = sym (alone (fed ++ rest)).0 ∙ off.is.next ∙ ap (λ (first : List RequestKind). first ++ off.kind ∷ off.is.later) (alone fed).0 };
    appends = λ is. same_room M.acknowledgement (off.appends is);
    asks = λ reply is. elim (off.asks reply is) [
      | inl own ↦ inl (same_room reply own)
      | inr all ↦ inr all
    ];
  }
    where
      same_room : (reply : ℕ) → LacksRoom M backlog k core fed between reply → LacksRoom M backlog k old fed before reply
      same_room reply none = record {
        full = omega (arith, none.full, ap length kept, (alone fed).1);
        first = λ asked empty. none.first ((alone fed).0 ∙ asked) (kept ∙ empty);
      }

  pub off_before : {AskNoMore : ℕ → Type 0} (k : ℕ) (core : C) (fed rest : List ℕ) (between before : SlotData S) → kept_of between ≡ kept_of before → (rest ≡ []) ⊎ IsPutOff M backlog AskNoMore k core fed rest between → (rest ≡ []) ⊎ IsPutOff M backlog AskNoMore k core fed rest before
  off_before {AskNoMore} k core fed rest between before kept (inl none) = inl none
  off_before {AskNoMore} k core fed rest between before kept (inr off) = inr (put_off_at {AskNoMore = AskNoMore} k core core fed rest between before kept (λ bytes. (refl, refl)) off)

  -- ---- of several turns

  -- whoever has had a turn isn't read again
  -- if questions may ask for no more, they may not later
  pub takes_longer : {AskNoMore More : ℕ → Type 0} (k : ℕ) (calls : List StreamCall) (core : C) (before after : SlotData S) → ((reply : ℕ) → AskNoMore reply → More reply) → TakesUp M backlog AskNoMore k calls core before after → TakesUp M backlog More k calls core before after
  takes_longer {AskNoMore} {More} k calls core before after more takes = record { fed = takes.fed; all = takes.all; left = by takes.left }
    where
      by : (unread_of after ≡ []) ⊎ IsPutOff M backlog AskNoMore k core takes.fed (unread_of after) before → (unread_of after ≡ []) ⊎ IsPutOff M backlog More k core takes.fed (unread_of after) before
      by (inl none) = inl none
      by (inr off) = inr (record {
        kind = off.kind;
        is = off.is;
        appends = off.appends;
        asks = λ reply is. elim (off.asks reply is) [
          | inl own ↦ inl own
          | inr all ↦ inr (more reply all)
        ];
      })

  pub taken_stays : {AskNoMore : ℕ → Type 0} (k : ℕ) (calls later : List StreamCall) (core : C) (before between after : SlotData S) → bytes_read later ≡ [] → unread_of after ≡ unread_of between → TakesUp M backlog AskNoMore k calls core before between → TakesUp M backlog AskNoMore k (calls ++ later) core before after
  taken_stays {AskNoMore} k calls later core before between after none same takes = record {
    fed = takes.fed;
    all = ap (λ (read : List ℕ). unread_of before ++ read) (bytes_read-append calls later ∙ ap (λ (read : List ℕ). bytes_read calls ++ read) none ∙ append-nil (bytes_read calls)) ∙ takes.all ∙ ap (λ (rest : List ℕ). takes.fed ++ rest) (sym same);
    left = subst (λ (rest : List ℕ). (rest ≡ []) ⊎ IsPutOff M backlog AskNoMore k core takes.fed rest before) (sym same) takes.left;
  }

  -- and nothing was read of whoever has had none
  pub taken_later : {AskNoMore : ℕ → Type 0} (k : ℕ) (calls later : List StreamCall) (core old : C) (before between after : SlotData S) → bytes_read calls ≡ [] → unread_of between ≡ unread_of before → kept_of between ≡ kept_of before
      → ((bytes : List ℕ) → (M.requests core k bytes ≡ M.requests old k bytes) × (M.replies core k bytes ≡ M.replies old k bytes)) → TakesUp M backlog AskNoMore k later core between after → TakesUp M backlog AskNoMore k (calls ++ later) old before after
  taken_later {AskNoMore} k calls later core old before between after none same kept alone takes = record {
    fed = takes.fed;
    all = ap (λ (read : List ℕ). unread_of before ++ read) (bytes_read-append calls later ∙ ap (λ (read : List ℕ). read ++ bytes_read later) none) ∙ ap (λ (first : List ℕ). first ++ bytes_read later) (sym same) ∙ takes.all;
    left = by takes.left;
  }
    where
      by : (unread_of after ≡ []) ⊎ IsPutOff M backlog AskNoMore k core takes.fed (unread_of after) between → (unread_of after ≡ []) ⊎ IsPutOff M backlog AskNoMore k old takes.fed (unread_of after) before
      by (inl empty) = inl empty
      by (inr off) = inr (put_off_at {AskNoMore = AskNoMore} k core old takes.fed (unread_of after) between before kept alone off)
