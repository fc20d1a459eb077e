use Rattle.std.proofs.Common.{sym, ◌∙◌, ap}
use Rattle.mx_names.proofs.Words.{option_map, predefined_value, value_of_name, first_value, pure_of}
use Rattle.mx_names.proofs.Entries.{found}
use Rattle.mx_names.proofs.names.Names.lookup.Goals as goal

pub returns-in-Some : goal.returns-in-Some
returns-in-Some c =
    ap (λ o. first_value o (pure_of (predefined_value c.args.full.now))) (ap (option_map (λ d. d.value)) c.in-Some.ensures.value ∙ sym (found (λ k. k.items) c.args.full.now c.self.inside.defined.entries))
    ∙ ap (λ t. value_of_name t.names c.args.full.now) c.self.view_is

pub returns-in-Some-predefined : goal.returns-in-Some-predefined
returns-in-Some-predefined c =
    ap pure_of c.in-Some-predefined.ensures.value
    ∙ ap (λ o. first_value o (pure_of (predefined_value c.args.full.now))) (ap (option_map (λ d. d.value)) c.in-None.ensures.value ∙ sym (found (λ k. k.items) c.args.full.now c.self.inside.defined.entries))
    ∙ ap (λ t. value_of_name t.names c.args.full.now) c.self.view_is

pub returns-in-None-predefined : goal.returns-in-None-predefined
returns-in-None-predefined c =
    ap pure_of c.in-None-predefined.ensures.value
    ∙ ap (λ o. first_value o (pure_of (predefined_value c.args.full.now))) (ap (option_map (λ d. d.value)) c.in-None.ensures.value ∙ sym (found (λ k. k.items) c.args.full.now c.self.inside.defined.entries))
    ∙ ap (λ t. value_of_name t.names c.args.full.now) c.self.view_is
