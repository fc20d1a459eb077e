-- What is kept by two steps is kept by both, one after the other.
use Rattle.std.proofs.Common.{ℕ, ◌∙◌, refl, IsTrue, subst, sym, arith}
use Rattle.std.specs.Prelude.{Option}
use Rattle.mx_word.proofs.Fronts.{front-self, front-through}
use Rattle.mx_host.specs.HostModel.{HostModel, contents}
use Rattle.mx_host.specs.Keeping.{Keeps, HasStreams}

pub keeps-then : (a b c : Option HostModel) (k m n : ℕ) → Keeps a b k m → Keeps b c m n → Keeps a c k n
keeps-then a b c k m n first second = record {
  telling = second.telling ∙ first.telling;
  counting = omega (arith, first.counting, second.counting);
  input = λ t h. second.input (subst IsTrue (sym first.telling) t) (first.input t h);
  output = λ t h. second.output (subst IsTrue (sym first.telling) t) (first.output t h);
  errors = λ t h. second.errors (subst IsTrue (sym first.telling) t) (first.errors t h);
  growing = λ t.
      front-through (contents a).output (contents b).output (contents c).output (first.growing t) (second.growing (subst IsTrue (sym first.telling) t));
}

pub keeps-all : (a : Option HostModel) (k : ℕ) → Keeps a a k k
keeps-all a k = record { telling = refl; counting = omega arith; input = λ t h. h; output = λ t h. h; errors = λ t h. h; growing = λ t. front-self (contents a).output }

pub ruleset keeping = (keeps-then, keeps-all)

-- what a function keeps, the streams of the tool are of it
pub streams-kept : (a b : Option HostModel) (k m : ℕ) → Keeps a b k m → HasStreams a → HasStreams b
unfolding HasStreams
streams-kept a b k m kept had t = (kept.input (subst IsTrue kept.telling t) (had (subst IsTrue kept.telling t)).0, kept.output (subst IsTrue kept.telling t) (had (subst IsTrue kept.telling t)).1)
