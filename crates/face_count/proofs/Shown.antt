-- What is counted is shown.
use Rattle.std.proofs.Common.{◌≡◌, ◌≢◌, ℕ, Bool, true, false, IsTrue, List, refl, sym, ◌∙◌, ap, subst, IfErr, IfOk, Ok, Err}
use Rattle.std.specs.Prelude.{Option, Result}
use Rattle.mx_word.specs.Lists.{IsFront}
use Rattle.mx_word.specs.declared.no_memory.NoMemory.{NoMemory}
use Rattle.mx_word.proofs.Fronts.{front-through}
use Rattle.mx_host.specs.HostModel.{HostModel, contents, tells}
use Rattle.mx_host.specs.HostAnswer.{Then}
use Rattle.mx_host.specs.Keeping.{Answers, ComesByFault, Keeps, OnlyAddsOutput, OnlyByFailure}
use Rattle.mx_plan.specs.Wild.{ends, meets_wild}
use Rattle.mx_run.specs.WildRuns.{MachineKind, window_machine, list_machine}
use Rattle.mx_begin.specs.Arguments.{Word, arguments, word_at}
use Rattle.mx_count.specs.Runs.{CountAnswer, CountsByKind}
use Rattle.mx_face.specs.Pages.{FaultsBetween, IsOfView, page_put}
use Rattle.mx_face.specs.declared.page.Page.{Page}
use Rattle.mx_face.proofs.Faults.{faults-nowhere}
use Rattle.mx_files.specs.Answers.{Answer, GoesAs, plainly}
use Rattle.mx_files.specs.Source.{file_bytes, object_pieces}
use Rattle.mx_outcome.specs.Kinds.{is_usage}
use Rattle.mx_outcome.specs.declared.outcome.Outcome.{Outcome}
use Rattle.mx_outcome.specs.declared.outcome.Outcome.TheVariants.{HostFault, NoFile, OutOfMemory}
use Rattle.mx_words.specs.Orders.{order_of}
use Rattle.mx_words.specs.declared.order.Order.{Order}
use Rattle.face_count.specs.CountPages.{AnswersByKind, CountsOrder, page_after, shown_after, shown_bytes, shown_count, unread_page}

-- to tell that there was no memory is that there was none
abbrev is_lacking : Outcome → Bool
is_lacking OutOfMemory = true
is_lacking o = false

lacking-is : (o : Outcome) → is_lacking o ≡ true → o ≡ OutOfMemory
lacking-is OutOfMemory e = refl
lacking-is o e = absurd (cc)

lacking-not : (o : Outcome) → is_lacking o ≡ false → o ≢ OutOfMemory
lacking-not OutOfMemory e = λ x. absurd (cc)
lacking-not o e = λ x. cc

pub lacking-told : (r : Outcome) → (r ≢ OutOfMemory → r ≡ OutOfMemory) → r ≡ OutOfMemory
lacking-told r same = by (is_lacking r) refl
  where
    by : (b : Bool) → is_lacking r ≡ b → r ≡ OutOfMemory
    by true e = lacking-is r e
    by false e = same (lacking-not r e)

-- ---- an answer beside the list machine

goes-by : (y : Answer) (r : Outcome) (n : HostModel) → ends r n ≡ y → GoesAs y r n
goes-by y r n e = subst (λ z. GoesAs z r n) e (refl, refl)

goes-shown : {A : Type 0} (page : A → Page) (y : CountAnswer A) (x : A) (r : Outcome) (m n : HostModel) → (r, n) ≡ page_put (page x) m → IsFront m.output n.output →
    GoesAs y x m → GoesAs (page_after page y) r n
goes-shown page (ends z k) x r m n shown grows goes =
    goes-by (plainly (page_put (page z) k)) r n (ap plainly (shown ∙ (λ i. page_put (page (goes.0 i)) (goes.1 i))))
goes-shown page (meets_wild k) x r m n shown grows goes = front-through k.output m.output n.output goes grows

-- ---- what was counted, and then its page

pub count-shown : {A : Type 0} (a b d : Option HostModel) (f : MachineKind → HostModel → CountAnswer A) (page : A → Page) (x : A) (o r : Outcome) (p : Result Page NoMemory) →
    tells b ≡ tells a → CountsByKind a b o x f → IfOk p (λ q. q ≡ page x) → IfOk p (λ q. o ≢ OutOfMemory) → IfOk p (λ q. Answers b d OutOfMemory r (λ m. page_put q m)) →
    IfErr p (λ none. r ≡ OutOfMemory) → OnlyAddsOutput b d → AnswersByKind a d r (λ kind m. page_after page (f kind m))
count-shown a b d f page x o r (Ok q) same counted is enough shown lacks grows =
    let there : IsTrue (tells a) → IsTrue (tells b) = λ t. subst IsTrue (sym same) t in
    let put : IsTrue (tells a) → r ≢ OutOfMemory → (r, contents d) ≡ page_put (page x) (contents b) = λ t ne. shown (there t) ne ∙ ap (λ y. page_put y (contents b)) is in (
      λ t ne. ap plainly (put t ne) ∙ ap (page_after page) (counted.0 t enough),
      λ t ne. goes-shown page (f list_machine (contents a)) x r (contents b) (contents d) (put t ne) (grows (there t)) (counted.1 t enough),
    )
count-shown a b d f page x o r (Err e) same counted is enough shown lacks grows = (λ t ne. absurd (ne lacks), λ t ne. absurd (ne lacks))

-- a page alone
pub made-shown : (b d : Option HostModel) (r : Outcome) (p : Result Page NoMemory) (page : Page) → IfOk p (λ q. q ≡ page) → IfOk p (λ q. Answers b d OutOfMemory r (λ m. page_put q m)) →
    IfErr p (λ none. r ≡ OutOfMemory) → Answers b d OutOfMemory r (λ m. page_put page m)
made-shown b d r (Ok q) page is shown lacks = λ t ne. shown t ne ∙ ap (λ y. page_put y (contents b)) is
made-shown b d r (Err e) page is shown lacks = λ t ne. absurd (ne lacks)

pub made-lacks : (o r : Outcome) (p : Result Page NoMemory) → IfOk p (λ q. o ≢ OutOfMemory) → IfErr p (λ none. r ≡ OutOfMemory) → o ≡ OutOfMemory → r ≡ OutOfMemory
made-lacks o r (Ok q) enough lacks e = absurd (enough e)
made-lacks o r (Err none) enough lacks e = lacks

-- ---- the file

pub read-shown : (a b d : Option HostModel) (r : Outcome) (is_json : Bool) (o : Order) (name : List ℕ) (given : List (List ℕ)) (bytes slice : List ℕ) → tells b ≡ tells a →
    Answers {A = Result (List ℕ) Outcome} a b (Err OutOfMemory) (Ok bytes) (λ m. file_bytes object_pieces name m) → slice ≡ bytes →
    AnswersByKind b d r (λ kind m. shown_bytes is_json kind o given slice m) → AnswersByKind a d r (λ kind m. shown_count is_json kind o name given m)
read-shown a b d r is_json o name given bytes slice same read whole shown =
    let there : IsTrue (tells a) → IsTrue (tells b) = λ t. subst IsTrue (sym same) t in
    let reads : (kind : MachineKind) → IsTrue (tells a) → shown_bytes is_json kind o given slice (contents b) ≡ shown_count is_json kind o name given (contents a) =
    λ kind t. ap (λ x. shown_bytes is_json kind o given x (contents b)) whole ∙ ap (shown_after is_json kind o given) (read t (λ e. absurd (cc))) in
    (λ t ne. shown.0 (there t) ne ∙ reads window_machine t, λ t ne. subst (λ y. GoesAs y r (contents d)) (reads list_machine t) (shown.1 (there t) ne))

pub unread-shown : (a b d : Option HostModel) (r : Outcome) (is_json : Bool) (o : Order) (name : List ℕ) (given : List (List ℕ)) (why : Outcome) → tells b ≡ tells a →
    Answers {A = Result (List ℕ) Outcome} a b (Err OutOfMemory) (Err why) (λ m. file_bytes object_pieces name m) → (why ≡ OutOfMemory → r ≡ OutOfMemory) →
    Answers b d OutOfMemory r (λ m. page_put (unread_page is_json why) m) → AnswersByKind a d r (λ kind m. shown_count is_json kind o name given m)
unread-shown a b d r is_json o name given why same read lacks shown =
    let there : IsTrue (tells a) → IsTrue (tells b) = λ t. subst IsTrue (sym same) t in
    let put : (kind : MachineKind) → IsTrue (tells a) → r ≢ OutOfMemory → ends r (contents d) ≡ shown_count is_json kind o name given (contents a) =
    λ kind t ne. ap plainly (shown (there t) ne) ∙ ap (shown_after is_json kind o given) (read t (λ e. ne (lacks (cc e)))) in
    (put window_machine, λ t ne. goes-by (shown_count is_json list_machine o name given (contents a)) r (contents d) (put list_machine t ne))

-- what the words give
pub given-shown : (a d : Option HostModel) (r : Outcome) (is_json : Bool) (o : Order) (name word : List ℕ) (given words : List (List ℕ)) → name ≡ word → given ≡ words →
    AnswersByKind a d r (λ kind m. shown_count is_json kind o name given m) → AnswersByKind a d r (λ kind m. shown_count is_json kind o word words m)
given-shown a d r is_json o name word given words e f told =
    subst (λ (p : List ℕ × List (List ℕ)). AnswersByKind a d r (λ kind m. shown_count is_json kind o p.0 p.1 m)) (λ i. (e i, f i)) told

-- ---- the words

pub ordered-shown : (a d : Option HostModel) (r : Outcome) (is_json : Bool) (words : List Word) (order o : Order) → order_of words ≡ Ok order → order_of words ≡ Ok o →
    AnswersByKind a d r (λ kind m. shown_count is_json kind order (word_at words order.file) (arguments words order) m) →
    AnswersByKind a d r (λ kind m. shown_count is_json kind o (word_at words o.file) (arguments words o) m)
ordered-shown a d r is_json words order o e f told =
    let same : order ≡ o = cc (e, f) in
    subst (λ (p : Order). AnswersByKind a d r (λ kind m. shown_count is_json kind p (word_at words p.file) (arguments words p) m)) same told

pub words-shown : (a d : Option HostModel) (r : Outcome) (is_json : Bool) (few many : List Word) → few ≡ many → CountsOrder a d r is_json few → CountsOrder a d r is_json many
words-shown a d r is_json few many e told = subst (λ (w : List Word). CountsOrder a d r is_json w) e told

pub usage-shown : (a d : Option HostModel) (r said : Outcome) (f : MachineKind → HostModel → Answer) → is_usage said ≡ true → (r ≢ OutOfMemory → r ≡ said) → is_usage r ≡ false →
    AnswersByKind a d r f
usage-shown a d r said f usage same plain =
    let never : r ≢ OutOfMemory → true ≡ false = λ ne. sym usage ∙ ap is_usage (sym (same ne)) ∙ plain in
    (λ t ne. absurd (cc (never ne)), λ t ne. absurd (cc (never ne)))

pub lacking-shown : (a d : Option HostModel) (r : Outcome) (f : MachineKind → HostModel → Answer) → (r ≢ OutOfMemory → r ≡ OutOfMemory) → AnswersByKind a d r f
lacking-shown a d r f same = (λ t ne. absurd (ne (same ne)), λ t ne. absurd (ne (same ne)))

-- ---- how it fails

-- a page has the outcome of what was counted
pub onward-as : (old new : Option HostModel) (k m : ℕ) (o p r : Outcome) → p ≡ o →
    ((start : Option HostModel) → (first : ℕ) → FaultsBetween start old first k HostFault NoFile p → FaultsBetween start new first m HostFault NoFile r) →
    (start : Option HostModel) → (first : ℕ) → FaultsBetween start old first k HostFault NoFile o → FaultsBetween start new first m HostFault NoFile r
onward-as old new k m o p r e onward start first was = onward start first (subst (λ (x : Outcome). FaultsBetween start old first k HostFault NoFile x) (sym e) was)

-- a run that is counted tells no fault of the host
pub count-faults : (a b : Option HostModel) (k m : ℕ) (o : Outcome) → o ≢ HostFault → o ≢ NoFile → Keeps a b k m → FaultsBetween a b k m HostFault NoFile o
count-faults a b k m o well present kept = record { host_fault = λ had e. absurd (well e); no_file = λ un e. absurd (present e); keeps = kept }

-- what is put after it keeps what every function keeps
pub count-keeps : (b d : Option HostModel) (k n : ℕ) (o r : Outcome) → o ≢ HostFault → o ≢ NoFile →
    ((start : Option HostModel) → (first : ℕ) → FaultsBetween start b first k HostFault NoFile o → FaultsBetween start d first n HostFault NoFile r) → Keeps b d k n
count-keeps b d k n o r well present onward = (onward b k (faults-nowhere b k o (well, present))).keeps

-- a file that is read, or is not
pub read-faults : {A : Type 0} (a b : Option HostModel) (k m : ℕ) (why : Outcome) → OnlyByFailure {A = Result A Outcome} a (Err HostFault) (Err why) k m →
    ComesByFault {A = Result A Outcome} a (Err NoFile) (Err why) k m → Keeps a b k m → FaultsBetween a b k m HostFault NoFile why
read-faults a b k m why host absent kept = record { host_fault = λ had e. host had (ap Err e); no_file = λ un e. absent un (ap Err e); keeps = kept }
