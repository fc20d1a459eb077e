use Rattle.std.proofs.Common.{◌≡◌, ◌≤◌, ◌-◌, length, drop}
use Rattle.mx_line.specs.Fields.{field_length, more}
use Rattle.mx_line.proofs.fields.field_length.Given as goal

abbrev pub invariant-field : goal.invariant-field
invariant-field l = record {
  within : l.count ≤ length l.text;
  left : field_length l.text ≡ more l.count (field_length (drop l.count l.text));
}

abbrev pub decreases-field : goal.decreases-field
decreases-field l = length l.text - l.count
