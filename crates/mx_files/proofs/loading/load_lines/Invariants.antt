use Rattle.std.proofs.Common.{◌≡◌, Ok, length}
use Rattle.mx_line.specs.Lines.{lines_of}
use Rattle.mx_load.specs.Status as loader_spec
use Rattle.mx_files.specs.Loading as spec
use Rattle.mx_files.proofs.loading.load_lines.Given as goal

abbrev pub invariant-loop-rest : goal.invariant-loop-rest
invariant-loop-rest l = record {
  loaded : spec.lines_loaded 1 (lines_of l.text) (spec.loading_status l.fn.assembler (loader_spec.status l.fn.loader))
      ≡ spec.lines_loaded l.line (lines_of l.rest) (spec.loading_status l.assembler (loader_spec.status l.loader));
  unrefused : loader_spec.answer (loader_spec.status l.loader) ≡ Ok tt;
}

abbrev pub decreases-loop-rest : goal.decreases-loop-rest
decreases-loop-rest l = length l.rest
