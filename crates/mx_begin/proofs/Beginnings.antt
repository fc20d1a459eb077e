-- How an image is read, and a machine begins.
use Rattle.std.proofs.Common.{◌≡◌, ◌≢◌, ℕ, List, Ok, Err, refl, ◌∙◌, ap, subst}
use Rattle.std.specs.Prelude.{Option, Result}
use Rattle.mx_host.specs.HostModel.{HostModel, tells}
use Rattle.mx_plan.specs.Calls.{host, need}
use Rattle.mx_plan.specs.Clauses.{CarriesOutOnHost}
use Rattle.mx_plan.specs.Plan.{bind, end_of, end_after}
use Rattle.mx_plan.proofs.Plans.{end_bind}
use Rattle.mx_mmo.specs.Image.{Image}
use Rattle.mx_core.specs.State.{State}
use Rattle.mx_run.specs.WildRuns.{MachineKind}
use Rattle.mx_words.specs.declared.order.Order.{Order}
use Rattle.mx_files.specs.FilePlans.{Part, on_ok, file_plan}
use Rattle.mx_outcome.specs.declared.outcome.Outcome.{Outcome}
use Rattle.mx_outcome.specs.declared.outcome.Outcome.TheVariants.{OutOfMemory}
use Rattle.mx_begin.specs.Arguments.{Word, word_at, arguments}
use Rattle.mx_begin.specs.BeginPlans.{taking, image_plan, image_file_plan, start_plan, begin_plan}
use Rattle.mx_begin.specs.Begun.{image_in, most_pieces, started}
use Rattle.mx_begin.specs.declared.images.Form.{Form}
use Rattle.mx_begin.proofs.Parts.{part-lacks, part-taking, part-made, part-then, part-ends}

-- ---- an image

pub image-carried : (a b : Option HostModel) (form : Form) (name : Word) (bytes text : List ℕ) (most : ℕ) (r : Result Image Outcome) → most ≡ most_pieces form → tells b ≡ tells a → text ≡ bytes → (r ≢ Err OutOfMemory → r ≡ image_in form text) →
    CarriesOutOnHost a b (Err OutOfMemory) (Ok bytes) (file_plan most name) → CarriesOutOnHost a b (Err OutOfMemory) r (image_file_plan form name)
unfolding image_file_plan image_plan
image-carried a b form name bytes text most r m e same is h =
    part-then a b b bytes r (image_plan form) (file_plan (most_pieces form) name) e (subst (λ (n : ℕ). CarriesOutOnHost a b (Err OutOfMemory) (Ok bytes) (file_plan n name)) m h)
    (part-made b r (image_in form bytes) (λ ne. is ne ∙ ap (image_in form) same))

pub image-uncarried : (a b : Option HostModel) (form : Form) (name : Word) (most : ℕ) (outcome : Outcome) → most ≡ most_pieces form → CarriesOutOnHost a b (Err OutOfMemory) (Err outcome) (file_plan most name) →
    CarriesOutOnHost a b (Err OutOfMemory) (Err outcome) (image_file_plan form name)
unfolding image_file_plan
image-uncarried a b form name most outcome m h =
    part-ends a b outcome (image_plan form) (file_plan (most_pieces form) name) (subst (λ (n : ℕ). CarriesOutOnHost a b (Err OutOfMemory) (Err outcome) (file_plan n name)) m h)

-- ---- a machine

pub begun-carried : (a b : Option HostModel) (kind : MachineKind) (words : List Word) (o : Order) (form : Form) (name : Word) (args : List Word) (image : Image) (r : Result State Outcome) → name ≡ word_at words o.file → args ≡ arguments words o → tells b ≡ tells a →
    (r ≢ Err OutOfMemory → r ≡ started kind o.ring image args) → CarriesOutOnHost a b (Err OutOfMemory) (Ok image) (image_file_plan form name) → CarriesOutOnHost a b (Err OutOfMemory) r (begin_plan kind words o form)
unfolding begin_plan start_plan
begun-carried a b kind words o form name args image r named all e is h =
    part-taking a b r (bind (on_ok (start_plan kind o.ring (arguments words o))) (image_file_plan form (word_at words o.file)))
    (part-then a b b image r (start_plan kind o.ring (arguments words o)) (image_file_plan form (word_at words o.file)) e (subst (λ (n : Word). CarriesOutOnHost a b (Err OutOfMemory) (Ok image) (image_file_plan form n)) named h)
    (part-made b r (started kind o.ring image (arguments words o)) (λ ne. is ne ∙ ap (started kind o.ring image) all)))

pub begun-uncarried : (a b : Option HostModel) (kind : MachineKind) (words : List Word) (o : Order) (form : Form) (name : Word) (outcome : Outcome) → name ≡ word_at words o.file → CarriesOutOnHost a b (Err OutOfMemory) (Err outcome) (image_file_plan form name) →
    CarriesOutOnHost a b (Err OutOfMemory) (Err outcome) (begin_plan kind words o form)
unfolding begin_plan
begun-uncarried a b kind words o form name outcome named h =
    part-taking a b (Err outcome) (bind (on_ok (start_plan kind o.ring (arguments words o))) (image_file_plan form (word_at words o.file)))
    (part-ends a b outcome (start_plan kind o.ring (arguments words o)) (image_file_plan form (word_at words o.file)) (subst (λ (n : Word). CarriesOutOnHost a b (Err OutOfMemory) (Err outcome) (image_file_plan form n)) named h))

pub begun-lacks : (a : Option HostModel) (kind : MachineKind) (words : List Word) (o : Order) (form : Form) → CarriesOutOnHost a a (Err OutOfMemory) (Err OutOfMemory) (begin_plan kind words o form)
unfolding begin_plan
begun-lacks a kind words o form = part-lacks a (bind (on_ok (start_plan kind o.ring (arguments words o))) (image_file_plan form (word_at words o.file)))

-- ---- the ends of the plans, by what is read

pub image-end : (form : Form) (bytes : List ℕ) (m : HostModel) → end_of host (image_plan form bytes) m ≡ (image_in form bytes, m)
unfolding image_plan bind need end_of host
image-end form bytes m = refl

pub image-by : (form : Form) (name : Word) (m : HostModel) → end_of host (image_file_plan form name) m ≡ end_after host (on_ok (image_plan form)) (end_of host (file_plan (most_pieces form) name) m)
unfolding image_file_plan
image-by form name m = end_bind host (on_ok (image_plan form)) (file_plan (most_pieces form) name) m

pub start-end : (kind : MachineKind) (ring : ℕ) (args : List Word) (image : Image) (m : HostModel) → end_of host (start_plan kind ring args image) m ≡ (started kind ring image args, m)
unfolding start_plan bind need end_of host
start-end kind ring args image m = refl

taking-end : {A : Type 0} (p : Part A) (m : HostModel) → end_of host (taking p) m ≡ end_of host p m
unfolding bind need end_of host
taking-end p m = refl

pub begin-by : (kind : MachineKind) (words : List Word) (o : Order) (form : Form) (m : HostModel) →
    end_of host (begin_plan kind words o form) m ≡ end_after host (on_ok (start_plan kind o.ring (arguments words o))) (end_of host (image_file_plan form (word_at words o.file)) m)
unfolding begin_plan
begin-by kind words o form m =
    taking-end (bind (on_ok (start_plan kind o.ring (arguments words o))) (image_file_plan form (word_at words o.file))) m
    ∙ end_bind host (on_ok (start_plan kind o.ring (arguments words o))) (image_file_plan form (word_at words o.file)) m

pub image-is : (form : Form) (name : Word) (bytes : List ℕ) (m n : HostModel) → end_of host (file_plan (most_pieces form) name) m ≡ (Ok bytes, n) → end_of host (image_file_plan form name) m ≡ (image_in form bytes, n)
image-is form name bytes m n e = image-by form name m ∙ ap (end_after host (on_ok (image_plan form))) e ∙ image-end form bytes n

-- a machine begins with the image that is in the file
pub begins : (kind : MachineKind) (words : List Word) (o : Order) (form : Form) (bytes : List ℕ) (image : Image) (m n : HostModel) → end_of host (file_plan (most_pieces form) (word_at words o.file)) m ≡ (Ok bytes, n) →
    image_in form bytes ≡ Ok image → end_of host (begin_plan kind words o form) m ≡ (started kind o.ring image (arguments words o), n)
begins kind words o form bytes image m n read means =
    begin-by kind words o form m
    ∙ ap (end_after host (on_ok (start_plan kind o.ring (arguments words o)))) (image-is form (word_at words o.file) bytes m n read ∙ ap (λ (r : Result Image Outcome). (r, n)) means)
    ∙ start-end kind o.ring (arguments words o) image n
