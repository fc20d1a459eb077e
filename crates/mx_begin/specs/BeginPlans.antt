-- How a machine begins: the file that the words name is read, the source in it is assembled or the object is loaded, and the
-- machine of a kind starts with the arguments. It is a plan: the calls of the host up to the start, and where memory is taken
-- between them.
use Rattle.std.specs.Prelude.{ℕ, List, Option, Result}
use Rattle.mx_host.specs.HostModel.{HostModel}
use Rattle.mx_plan.specs.Plan.{returns, bind}
use Rattle.mx_plan.specs.Calls.{need}
use Rattle.mx_mmo.specs.Image.{Image}
use Rattle.mx_core.specs.State.{State}
use Rattle.mx_run.specs.WildRuns.{MachineKind}
use Rattle.mx_words.specs.declared.order.Order.{Order}
use Rattle.mx_outcome.specs.declared.outcome.Outcome.{Outcome}
use Rattle.mx_files.specs.Clauses.{CarriesOutFilePart}
use Rattle.mx_files.specs.FilePlans.{Part, on_ok, file_plan}
use Rattle.mx_begin.specs.Arguments.{Word, word_at, arguments}
use Rattle.mx_begin.specs.Begun.{image_in, most_pieces, started}
use Rattle.mx_begin.specs.declared.images.Form.{Form}

-- memory is taken, and then this follows
abbrev pub taking : {A : Type 0} → Part A → Part A
taking p = bind (λ u. p) need

-- a source takes memory to assemble, and an object to load
unfoldable pub image_plan : Form → List ℕ → Part Image
image_plan form bytes = taking (returns (image_in form bytes))

unfoldable pub image_file_plan : Form → Word → Part Image
image_file_plan form name = bind (on_ok (image_plan form)) (file_plan (most_pieces form) name)

-- so does a machine to start
unfoldable pub start_plan : MachineKind → ℕ → List Word → Image → Part State
start_plan kind ring arguments image = taking (returns (started kind ring image arguments))

-- and so do the arguments
unfoldable pub begin_plan : MachineKind → List Word → Order → Form → Part State
begin_plan kind words o form = taking (bind (on_ok (start_plan kind o.ring (arguments words o))) (image_file_plan form (word_at words o.file)))

-- over a host, a machine begins so, or the outcome is this
abbrev pub Begins : {H : Type 0} → (H → Option HostModel) → H → H → Result State Outcome → MachineKind → List Word → Order → Form → Type 0
Begins told old new result kind words o form = CarriesOutFilePart told old new result (begin_plan kind words o form)
