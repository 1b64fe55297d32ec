-- What is answered, put to OUT and formatted, by the facts of the calls.
use Rattle.std.specs.Prelude.{OnOk, IfOk, IfSome}
use Rattle.std.specs.Str.{bytes_eq}
use Rattle.std.specs.Fmt.{decimal}
use Rattle.std.proofs.Common.{◌≡◌, ◌⊎◌, ◌∙◌, inl, inr, ℕ, ◌-◌, ◌<◌, ◌≤◌, Bool, true, false, Option, Some, None, Result, Ok, Err, List, [], ◌∷◌, ◌++◌, length, suc, codes, append-nil, refl, sym, ap, subst, arith}
use Rattle.std.specs.Io.KnownBytes.{Appends, Keeps}
use Rattle.std.proofs.KnownBytes.{Appends-trans}
use Rattle.audit_chain.specs.EventData.{EventData}
use Rattle.audit_disk_model.specs.View.{View}
use Rattle.audit_disk_model.specs.declared.sectors.Sectors as sectors
use Rattle.audit_log.specs.declared.header.TheConstants.{MIN_SECTORS, MAX_SECTORS}
use Rattle.audit_store_commit.specs.Origin.{Origin}
use Rattle.audit_store.specs.Store.{active_header, Holds, IsFormatted}
use Rattle.audit_store.specs.declared.store.Store.{Store}
use denote.Ref.{Bor}
use Rattle.audit_chain.specs.Entries.{log_entries, entries_from, first_link}
use Rattle.audit_chain.specs.Entry.{link_after}
use Rattle.audit_chain.specs.Key.{next_key}
use Rattle.audit_tree.specs.Subtree.{commitment_of}
use Rattle.audit_proof.specs.declared.commitment.Commitment.{Commitment}
use Rattle.audit_disk.specs.FileFacts.{FileFacts, IsMadeDevice}
use Rattle.audit_disk.specs.Positioned.{PositionedView, ShowsFront}
use Rattle.audit_log.specs.declared.header.Header.{Header}
use Rattle.audit_disk.specs.declared.files.TheConstants.{OWNER_ONLY}
use Rattle.audit_cli_base.specs.Arguments.{selects_output, sectors_asked, number_asked, proof_asked}
use Rattle.audit_cli_base.specs.Blank.{IsBlankUpTo}
use Rattle.audit_cli_base.specs.KeyFile.{IsKeyAt}
use Rattle.audit_cli_base.specs.Mode.{IsMode}
use Rattle.audit_cli_base.specs.declared.arguments.ProofRequest.{ProofRequest}
use Rattle.audit_cli_base.specs.declared.fault.CommandError.{CommandError}
use Rattle.audit_cli_store.specs.Proofs.{AsksOutside, proof_of_log}
use Rattle.audit_cli_store.specs.declared.request.Access.{Access}
use Rattle.audit_cli_store.specs.declared.request.Access.TheVariants.{Repair, ReadOnly, Salvage}
use Rattle.audit_cli_store.specs.declared.request.Request.TheVariants as request
use Rattle.audit_cli_store.specs.declared.request.Site.{Site}
use Rattle.audit_cli_store.specs.declared.show_form.ShowForm.{ShowForm}
use Rattle.audit_cli_base.specs.OpenedStore.{IsStoreOn, IsDeviceAt, IsReadDeviceAt, IsStoreAt}
use Rattle.audit_disk.specs.SectorSource.{source_of}
use Rattle.audit_store.specs.ReadOnlyOpening.{at_rest}
use Rattle.audit_cli_store.specs.Exports.{export_after, PutsEntries}
use Rattle.audit_cli_store.specs.Shown.{printed_state}
use Rattle.audit_cli_store.specs.OpenedProofs.{OpensProofAt}
use Rattle.audit_cli_store.specs.declared.opening.Opening.{Opening}
use Rattle.audit_cli_store.specs.Headers.{IsHeaderOn, TellsHeader, ShowsHeader}
use Rattle.audit_cli_store.specs.OnFiles.{put_text, blank_front, IsPutTo, exported_line, exported_text, AnswersAbout, AnswersOn, AnswersAt, IsDeviceFor, view_for, ProvesOn, IsProofAt, ProvesAt, FormatsNewFile, FormatsInPlace, FormatsSite, ClosesAt, IsDoneOnFile}
use Rattle.audit_cli_store.specs.declared.answering.StoreQuestion.{StoreQuestion}
use Rattle.audit_cli_store.specs.declared.answering.StoreQuestion.TheVariants.{State, Entries}

-- what isn't less is at least as much
not_less : (n m : ℕ) → (n < m → ⊥) → m ≤ n
not_less n m none = omega (arith, none)

length_of_entries : (key last : List ℕ) (events : List EventData) → length (entries_from key last events) ≡ length events
length_of_entries key last [] = refl
length_of_entries key last (event ∷ events) = ap suc (length_of_entries (next_key key) (link_after key last event) events)

-- ---- what is put to OUT

-- known bytes that stay, and then grow
pub kept_appends : (before mid after : Option (List ℕ)) (text : List ℕ) → Keeps before mid → Appends mid after text → Appends before after text
kept_appends None mid after text keeps appends = tt
kept_appends (Some xs) None after text keeps appends = absurd keeps
kept_appends (Some xs) (Some ys) None text keeps appends = absurd appends
kept_appends (Some xs) (Some ys) (Some zs) text keeps appends = appends ∙ ap (λ (front : List ℕ). front ++ text) keeps

put_true : (out contents line : List ℕ) → selects_output out ≡ true → bytes_eq out (codes "-") ≡ true → put_text out contents line ≡ contents
put_true out contents line selects name = rw (selects, name) (append-nil contents)

put_both : (out contents line : List ℕ) → selects_output out ≡ true → bytes_eq out (codes "-") ≡ false → put_text out contents line ≡ contents ++ line
put_both out contents line selects name = rw (selects, name) refl

put_line : (out contents line : List ℕ) → selects_output out ≡ false → bytes_eq out (codes "-") ≡ false → put_text out contents line ≡ line
put_line out contents line selects name = rw (selects, name) refl

-- the name of standard output selects it
selected : (out : List ℕ) → bytes_eq out (codes "-") ≡ true → selects_output out ≡ true
selected out name = rw name refl

-- contents that are put to the output alone
pub puts_alone : (out contents line : List ℕ) (before after : Option (List ℕ)) → bytes_eq out (codes "-") ≡ true → (selects_output out ≡ true → Appends before after contents) → Appends before after (put_text out contents line)
puts_alone out contents line before after name puts = subst (Appends before after) (sym (put_true out contents line (selected out name) name)) (puts (selected out name))

-- contents, and then the line about them
pub puts_and_line : (out contents line : List ℕ) (before mid after : Option (List ℕ)) → bytes_eq out (codes "-") ≡ false → (selects_output out ≡ true → Appends before mid contents) → (selects_output out ≡ false → Keeps before mid) → Appends mid after line → Appends before after (put_text out contents line)
puts_and_line out contents line before mid after name puts keeps written = by (selects_output out) refl
  where
    by : (selects : Bool) → selects_output out ≡ selects → Appends before after (put_text out contents line)
    by true is = subst (Appends before after) (sym (put_both out contents line is name)) (Appends-trans before mid after contents line (puts is) written)
    by false is = subst (Appends before after) (sym (put_line out contents line is name)) (kept_appends before mid after line (keeps is) written)

-- what was put, by where OUT is
pub put_here : {X : Type 0} (puts : Option (List ℕ) → Option (List ℕ) → X → Type 0) (selects : Bool) (before after : Option (List ℕ)) (extent : X) → IsPutTo puts selects before after extent → selects ≡ true → puts before after extent
put_here puts true before after extent put is = put
put_here puts false before after extent put is = absurd (cc is)

pub put_elsewhere : {X : Type 0} (puts : Option (List ℕ) → Option (List ℕ) → X → Type 0) (selects : Bool) (before after : Option (List ℕ)) (extent : X) → IsPutTo puts selects before after extent → selects ≡ false → Keeps before after
put_elsewhere puts true before after extent put is = absurd (cc is)
put_elsewhere puts false before after extent put is = put.0

-- the extent that is known wherever it was put
pub put_extent : {X : Type 0} (puts : Option (List ℕ) → Option (List ℕ) → X → Type 0) (selects : Bool) (before after : Option (List ℕ)) (extent : X) (P : X → Type 0) → IsPutTo puts selects before after extent → ((old new : Option (List ℕ)) → puts old new extent → P extent) → P extent
put_extent puts true before after extent P put known = known before after put
put_extent puts false before after extent P put known = known put.1.0 put.1.1 put.1.2

module _ {D : Type 0} {g : sectors.Ghosts D} where
  -- an export, and the line about it
  pub exported : (store : Store D g) (out : List ℕ) (first count size : ℕ) (before mid after : Option (List ℕ)) (result : Result (Unit {0}) CommandError) → bytes_eq out (codes "-") ≡ false → IsPutTo (PutsEntries store first) (selects_output out) before mid size
      → ((origin : Origin) (events : List EventData) → Holds store origin events → count ≡ length events) → OnOk result (Appends mid after (exported_line (count - first) size))
      → OnOk result ((origin : Origin) (events : List EventData) → Holds store origin events → Appends before after (exported_text out first origin.first_key events))
  exported store out first count size before mid after (Err fault) name put counts written = tt
  exported store out first count size before mid after (Ok done) name put counts written = λ origin events holds.
      let entries = export_after first origin.first_key events in
      let sized : size ≡ length entries = put_extent (PutsEntries store first) (selects_output out) before mid size (λ (n : ℕ). n ≡ length entries) put (λ old new puts. (puts origin events holds).1) in
      puts_and_line out entries (exported_line (length events - first) (length entries)) before mid after name
      (λ here. (put_here (PutsEntries store first) (selects_output out) before mid size put here origin events holds).0)
      (put_elsewhere (PutsEntries store first) (selects_output out) before mid size put)
      (subst (λ (n : ℕ). Appends mid after (exported_line (length events - first) n)) sized (subst (λ (n : ℕ). Appends mid after (exported_line (n - first) size)) (counts origin events holds) written))

  -- ---- answers

  -- what is answered about a store is answered about the device that it was opened on
  pub answers_on : (disk : View) (question : StoreQuestion) (store : Store D g) (before after : Option (List ℕ)) → IsStoreOn disk store → AnswersAbout question store before after → AnswersOn question disk before after
  answers_on disk (State form) store before after on answers = (
    active_header store,
    record {
      sound = record { chosen = on.opened.chosen; entries = on.opened.entries; two = on.opened.two; log = on.opened.log; opening = on.opened.opening };
      header_is = on.opened.header_is;
    },
    answers,
  )
  answers_on disk (Entries out first) store before after on answers = λ origin events honest recoverable. answers origin events (on.holds origin events honest recoverable)

  pub answered_on : (disk : View) (question : StoreQuestion) (store : Store D g) (before after : Option (List ℕ)) (result : Result (Unit {0}) CommandError) → IsStoreOn disk store → OnOk result (AnswersAbout question store before after) → OnOk result (AnswersOn question disk before after)
  answered_on disk question store before after (Err fault) on answers = tt
  answered_on disk question store before after (Ok done) on answers = answers_on disk question store before after on answers

  pub proves_on : {X : Type 0} (disk : View) (asked : ProofRequest) (store : Store D g) (bytes : X → List ℕ) (result : Result X CommandError) → IsStoreOn disk store
      → ((origin : Origin) (events : List EventData) → Holds store origin events → (AsksOutside asked (length events) → ⊥) → IfOk result (λ made. bytes made ≡ proof_of_log origin.first_key events asked))
      → IfOk result (λ made. ProvesOn asked disk (bytes made))
  proves_on disk asked store bytes (Err fault) on proves = tt
  proves_on disk asked store bytes (Ok made) on proves = λ origin events honest recoverable inside. proves origin events (on.holds origin events honest recoverable) inside

  -- a device that was formatted, and its line
  pub formatted_line : (disk : View) (first_key : List ℕ) (store : Store D g) (before after : Option (List ℕ)) (line : Result (Unit {0}) CommandError) → ((disk.size < MIN_SECTORS) ⊎ (MAX_SECTORS < disk.size) → ⊥) → (MIN_SECTORS ≤ disk.size → disk.size ≤ MAX_SECTORS → IsFormatted disk first_key store)
      → OnOk line (Appends before after (codes "formatted " ++ decimal disk.size ++ codes "\n")) → OnOk line ((made : Store D g) × IsFormatted disk first_key made × Appends before after (codes "formatted " ++ decimal disk.size ++ codes "\n"))
  formatted_line disk first_key store before after (Err fault) sized formatted written = tt
  formatted_line disk first_key store before after (Ok done) sized formatted written = (store, formatted (not_less disk.size MIN_SECTORS (λ less. sized (inl less))) (not_less MAX_SECTORS disk.size (λ more. sized (inr more))), written)

  -- the count of a commitment to the events that a store holds
  pub counted : (store : Store D g) (commitment : Commitment) → ((origin : Origin) (events : List EventData) → Holds store origin events → (commitment.count, commitment.root) ≡ commitment_of (log_entries origin.first_key events)) → (origin : Origin) (events : List EventData) → Holds store origin events → commitment.count ≡ length events
  counted store commitment log origin events holds = ap (λ (pair : ℕ × List ℕ). pair.0) (log origin events holds) ∙ length_of_entries origin.first_key first_link events

module _ {F : Type 0} (facts : F → FileFacts) (positioned : F → PositionedView) {E : Type 0} (h : sectors.Ghosts E) where
  pub answered_store : (path : List ℕ) (question : StoreQuestion) (store : Store E h) (before after : Option (List ℕ)) (result : Result (Unit {0}) CommandError) → IsStoreAt facts positioned path store → OnOk result (AnswersAbout question store before after)
      → OnOk result (AnswersAt facts positioned h Repair path question before after)
  answered_store path question store before after (Err fault) at answers = tt
  answered_store path question store before after (Ok done) at answers = record { disk = at.disk; at = at.file; answers = answers_on (h.view at.disk) question store before after at.found answers }

  pub answered_at : (access : Access) (path : List ℕ) (question : StoreQuestion) (disk : E) (before after : Option (List ℕ)) (result : Result (Unit {0}) CommandError) → IsDeviceFor facts positioned h access path disk → OnOk result (AnswersOn question (view_for facts positioned h access disk) before after)
      → OnOk result (AnswersAt facts positioned h access path question before after)
  answered_at access path question disk before after (Err fault) at answers = tt
  answered_at access path question disk before after (Ok done) at answers = record { disk = disk; at = at; answers = answers }

  pub proof_store : {X : Type 0} (path : List ℕ) (asked : ProofRequest) (store : Store E h) (bytes : X → List ℕ) (result : Result X CommandError) → IsStoreAt facts positioned path store
      → ((origin : Origin) (events : List EventData) → Holds store origin events → (AsksOutside asked (length events) → ⊥) → IfOk result (λ made. bytes made ≡ proof_of_log origin.first_key events asked))
      → IfOk result (λ made. IsProofAt facts positioned h Repair path asked (bytes made))
  proof_store path asked store bytes (Err fault) at proves = tt
  proof_store path asked store bytes (Ok made) at proves = record { disk = at.disk; at = at.file; proves = λ origin events honest recoverable inside. proves origin events (at.found.holds origin events honest recoverable) inside }

  pub proof_at : {X : Type 0} (access : Access) (path : List ℕ) (asked : ProofRequest) (disk : E) (bytes : X → List ℕ) (result : Result X CommandError) → IsDeviceFor facts positioned h access path disk → IfOk result (λ made. ProvesOn asked (view_for facts positioned h access disk) (bytes made))
      → IfOk result (λ made. IsProofAt facts positioned h access path asked (bytes made))
  proof_at access path asked disk bytes (Err fault) at proves = tt
  proof_at access path asked disk bytes (Ok made) at proves = record { disk = disk; at = at; proves = proves }

  -- by a device that is only read
  pub proof_read : {X : Type 0} (access : Access) → (access ≡ ReadOnly) ⊎ (access ≡ Salvage) → (path : List ℕ) (asked : ProofRequest) (disk : E) (bytes : X → List ℕ) (result : Result X CommandError) → IsReadDeviceAt facts positioned path (h.view disk) → IfOk result (λ made. ProvesOn asked (at_rest (source_of (h.view disk))) (bytes made))
      → IfOk result (λ made. IsProofAt facts positioned h access path asked (bytes made))
  proof_read access (inl is) path asked disk bytes result at proves = rw is (proof_at ReadOnly path asked disk bytes result at proves)
  proof_read access (inr is) path asked disk bytes result at proves = rw is (proof_at Salvage path asked disk bytes result at proves)

  -- a proof that was put to the output alone
  pub proved_alone : (access : Access) (path : List ℕ) (asked : ProofRequest) (out proof slice : List ℕ) (before after : Option (List ℕ)) → slice ≡ proof → bytes_eq out (codes "-") ≡ true → IsProofAt facts positioned h access path asked proof
      → IsPutTo {X = Unit {0}} (λ old new _. Appends old new slice) (selects_output out) before after tt → ProvesAt facts positioned h access path asked out before after
  proved_alone access path asked out proof slice before after same name proves put = record {
    proof = proof;
    proves = proves;
    put = puts_alone out proof _ before after name (λ here. subst (Appends before after) same (put_here {X = Unit {0}} (λ old new _. Appends old new slice) (selects_output out) before after tt put here));
  }

  pub proved : (access : Access) (path : List ℕ) (asked : ProofRequest) (out proof slice : List ℕ) (size : ℕ) (before mid after : Option (List ℕ)) (result : Result (Unit {0}) CommandError) → slice ≡ proof → size ≡ length proof → bytes_eq out (codes "-") ≡ false
      → IsProofAt facts positioned h access path asked proof → IsPutTo {X = Unit {0}} (λ old new _. Appends old new slice) (selects_output out) before mid tt → OnOk result (Appends mid after (codes "proof " ++ decimal size ++ codes "\n")) → OnOk result (ProvesAt facts positioned h access path asked out before after)
  proved access path asked out proof slice size before mid after (Err fault) same sized name proves put written = tt
  proved access path asked out proof slice size before mid after (Ok done) same sized name proves put written = record {
    proof = proof;
    proves = proves;
    put = puts_and_line out proof _ before mid after name (λ here. subst (Appends before mid) same (put_here {X = Unit {0}} (λ old new _. Appends old new slice) (selects_output out) before mid tt put here))
        (put_elsewhere {X = Unit {0}} (λ old new _. Appends old new slice) (selects_output out) before mid tt put) (subst (λ (n : ℕ). Appends mid after (codes "proof " ++ decimal n ++ codes "\n")) sized written);
  }

  module _ (remaining : F → Option (List ℕ)) where
    -- a formatted device, and the line with its size
    abbrev IsFormatting : (disk : E) (first_key : List ℕ) (before after : Option (List ℕ)) → Type 0
    IsFormatting disk first_key before after = (store : Store E h) × IsFormatted (h.view disk) first_key store × Appends before after (codes "formatted " ++ decimal (h.view disk).size ++ codes "\n")

    pub formatted_new : (path : List ℕ) (mode : Option (Bor (List ℕ))) (sectors key_file : List ℕ) (bits count : ℕ) (first_key : List ℕ) (disk : E) (before after : Option (List ℕ)) (result : Result (Unit {0}) CommandError) → (mode ≡ None → bits ≡ OWNER_ONLY) → IfSome mode (λ word. IsMode word.now bits) → sectors_asked sectors ≡ Ok count
        → IsKeyAt facts remaining key_file first_key → IsMadeDevice facts positioned path bits count (h.view disk) → (h.view disk).size ≡ count → OnOk result (IsFormatting disk first_key before after) → OnOk result (FormatsNewFile facts positioned h remaining path mode sectors key_file before after)
    formatted_new path mode sectors key_file bits count first_key disk before after (Err fault) owner bits_are asked key made size formatted = tt
    formatted_new path mode sectors key_file bits count first_key disk before after (Ok done) owner bits_are asked key made size formatted = record {
      bits = bits;
      owner = owner;
      bits_are = bits_are;
      count = count;
      count_is = asked;
      disk = disk;
      made = made;
      size = size;
      formatted = record { first_key = first_key; key_is = key; store = formatted.0; formatted = formatted.1; line = formatted.2 };
    }

    pub formatted_here : (path : List ℕ) (erase : Bool) (sectors key_file : List ℕ) (count : ℕ) (first_key : List ℕ) (disk : E) (before after : Option (List ℕ)) (result : Result (Unit {0}) CommandError) → sectors_asked sectors ≡ Ok count → IsKeyAt facts remaining key_file first_key → IsDeviceAt facts positioned path (h.view disk)
        → count ≤ (h.view disk).size → (erase ≡ false → (h.view disk).honest → IsBlankUpTo (h.view disk) blank_front) → OnOk result (IsFormatting disk first_key before after) → OnOk result (FormatsInPlace facts positioned h remaining path erase sectors key_file before after)
    formatted_here path erase sectors key_file count first_key disk before after (Err fault) asked key at size blank formatted = tt
    formatted_here path erase sectors key_file count first_key disk before after (Ok done) asked key at size blank formatted = record {
      count = count;
      count_is = asked;
      disk = disk;
      at = at;
      size = size;
      blank = blank;
      formatted = record { first_key = first_key; key_is = key; store = formatted.0; formatted = formatted.1; line = formatted.2 };
    }

  -- ---- headers

  pub told_by : (path : List ℕ) (file : F) (disk : E) (result : Result Header CommandError) → (facts file).opened_to_read path → ShowsFront (positioned file) (h.view disk) → IfOk result (IsHeaderOn (h.view disk)) → IfOk result (TellsHeader facts positioned h path)
  told_by path file disk (Err fault) opened front on = tt
  told_by path file disk (Ok header) opened front on = record { file = file; opened = opened; disk = disk; front = front; on = on }

  pub shown_by : (path : List ℕ) (form : ShowForm) (header : Header) (before after : Option (List ℕ)) (result : Result (Unit {0}) CommandError) → TellsHeader facts positioned h path header → OnOk result (Appends before after (printed_state form header)) → OnOk result (ShowsHeader facts positioned h path form before after)
  shown_by path form header before after (Err fault) tells shown = tt
  shown_by path form header before after (Ok done) tells shown = record { header = header; tells = tells; shown = shown }

  -- ---- the whole command

  module _ (remaining : F → Option (List ℕ)) where
    pub done_close : (file : Bor (List ℕ)) (before after : Option (List ℕ)) (result : Result (Unit {0}) CommandError) → ClosesAt facts positioned h file.now before after result → IsDoneOnFile facts positioned h remaining (request.Close file) before after result
    done_close file before after result closes = closes

    pub done_format : (file : Bor (List ℕ)) (site : Site) (sectors key_file : Bor (List ℕ)) (before after : Option (List ℕ)) (result : Result (Unit {0}) CommandError) → OnOk result (FormatsSite facts positioned h remaining file.now site sectors.now key_file.now before after)
        → IsDoneOnFile facts positioned h remaining (request.Format file site sectors key_file) before after result
    done_format file site sectors key_file before after (Ok done) formats = formats
    done_format file site sectors key_file before after (Err fault) formats = tt

    pub done_show : (file : Bor (List ℕ)) (access : Access) (form : ShowForm) (before after : Option (List ℕ)) (result : Result (Unit {0}) CommandError) → OnOk result (AnswersAt facts positioned h access file.now (State form) before after)
        → IsDoneOnFile facts positioned h remaining (request.Show file access form) before after result
    done_show file access form before after (Ok done) answers = answers
    done_show file access form before after (Err fault) answers = tt

    pub done_show_header : (file : Bor (List ℕ)) (form : ShowForm) (before after : Option (List ℕ)) (result : Result (Unit {0}) CommandError) → OnOk result (ShowsHeader facts positioned h file.now form before after) → IsDoneOnFile facts positioned h remaining (request.ShowHeader file form) before after result
    done_show_header file form before after (Ok done) shows = shows
    done_show_header file form before after (Err fault) shows = tt

    pub done_open : (asked : Opening) (before after : Option (List ℕ)) (result : Result (Unit {0}) CommandError) → OnOk result (OpensProofAt facts remaining asked before after) → IsDoneOnFile facts positioned h remaining (request.Open asked) before after result
    done_open asked before after (Ok done) opens = opens
    done_open asked before after (Err fault) opens = tt

    pub done_export : (file out : Bor (List ℕ)) (access : Access) (from : Option (Bor (List ℕ))) (before after : Option (List ℕ)) (result : Result (Unit {0}) CommandError) → OnOk result ((first : ℕ) × (number_asked from 0 ≡ Ok first) × AnswersAt facts positioned h access file.now (Entries out first) before after)
        → IsDoneOnFile facts positioned h remaining (request.Export file out access from) before after result
    done_export file out access from before after (Ok done) answers = answers
    done_export file out access from before after (Err fault) answers = tt

    pub done_prove : (file kind first second out : Bor (List ℕ)) (access : Access) (asked : ProofRequest) (before after : Option (List ℕ)) (result : Result (Unit {0}) CommandError) → proof_asked kind.now first.now second.now ≡ Some asked → OnOk result (ProvesAt facts positioned h access file.now asked out.now before after)
        → IsDoneOnFile facts positioned h remaining (request.Prove file kind first second out access) before after result
    done_prove file kind first second out access asked before after (Ok done) is proves = (asked, is, proves)
    done_prove file kind first second out access asked before after (Err fault) is proves = tt
