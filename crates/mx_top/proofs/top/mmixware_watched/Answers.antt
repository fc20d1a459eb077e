use Rattle.std.proofs.Common.{◌≢◌, ◌≤◌, inl, inr, [], refl, subst, sym, ◌∙◌, map}
use Rattle.std.specs.Prelude.{IsTrue, string_bytes}
use Rattle.std.proofs.lemmas.List.{length-map}
use Rattle.mx_host.specs.HostModel.{contents}
use Rattle.mx_run.specs.WildRuns.{window_machine, list_machine}
use Rattle.mx_words.specs.Orders.{order_of}
use Rattle.mx_outcome.specs.declared.outcome.Outcome.TheVariants.{OutOfMemory}
use Rattle.mx_watch.proofs.Watched.{unless-by}
use Rattle.mx_top.proofs.Heard.{found-due, from-none, left-of, some-due}
use Rattle.mx_top.specs.Product.{product_traces, work_plan}
use Rattle.mx_top.specs.WorkClauses.{answer_by}
use Rattle.mx_top.proofs.Spoken.{product-is-said, traces-of, answer-is, front-is, plan-comes}
use Rattle.mx_top.proofs.Reported.{reported, reported-goes, watched-so}
use Rattle.mx_top.proofs.Told.{spoken-front}
use Rattle.mx_word.proofs.Fronts.{front-of}
use Rattle.mx_word.specs.Lists.{IsFront}
use Rattle.mx_files.specs.Answers.{Answer, GoesAs, output_of}
use Rattle.mx_top.proofs.Saying.{telling-told, alone}
use Rattle.mx_top.proofs.Caused.{causes-told}
use Rattle.mx_top.proofs.top.mmixware_watched.Goals as goal

-- the message and the reports go to standard error, so what was written before them is still a front
pub returns-in-Ok-clause-product : goal.returns-in-Ok-clause-product
returns-in-Ok-clause-product g c = record {
  plan = λ t.
      let said = c.do_command-outcome.ensures in
      let there = subst IsTrue (sym said.causes.keeps.telling) t in
      let many = c.len-count.ensures ∙ c.args.watchers.now.ok.0 in
      record {
        left = contents (g.H.Host.told c.do_command-outcome.new.host);
        outcome = c.do_command-outcome.result;
        said = c.do_command-outcome.result;
        texts = _;
        heard = product_traces window_machine (map string_bytes c.args.words.now) (contents (g.H.Host.told c.args.host.now));
        works = plan-comes (contents (g.H.Host.told c.args.host.now)) _ _ (work_plan (map string_bytes c.args.words.now) (order_of (map string_bytes c.args.words.now))) _ (traces-of window_machine (map string_bytes c.args.words.now) (contents (g.H.Host.told c.args.host.now))) (said.both.window t);
        reports = inl (refl, (λ ne. c.as_slice.ensures ∙ c.in-Ok.ensures.texts ne ∙ found-due window_machine (map string_bytes c.args.words.now) _ _ _ (contents (g.H.Host.told c.args.host.now)) _ (many ∙ sym (length-map c.args.watchers.now.items _)) (from-none _ _ _ _ c.new-kept.ensures (said.heard.0 t ne)), λ e. c.as_slice.ensures ∙ c.in-Ok.ensures.none e));
        told = c.write_all.ensures.plan there;
      };
  answer = λ t ne.
      let said = c.do_command-outcome.ensures in
      let there = subst IsTrue (sym said.causes.keeps.telling) t in
      let wanting : c.do_command-outcome.result ≢ OutOfMemory = λ e. ne (c.write_all.ensures.same ne ∙ e) in
      reported c.do_command-outcome.result c.write_all.result _ _ _ _ _ (answer-is (contents (g.H.Host.told c.args.host.now)) _ _ (work_plan (map string_bytes c.args.words.now) (order_of (map string_bytes c.args.words.now))) (said.both.window t) wanting)
      (c.as_slice.ensures ∙ c.in-Ok.ensures.texts wanting ∙ found-due window_machine (map string_bytes c.args.words.now) _ _ _ (contents (g.H.Host.told c.args.host.now)) _ (c.len-count.ensures ∙ c.args.watchers.now.ok.0 ∙ sym (length-map c.args.watchers.now.items _)) (from-none _ _ _ _ c.new-kept.ensures (said.heard.0 t wanting)))
      (telling-told _ _ _ _ _ (c.write_all.ensures.plan there) ne) ∙ watched-so window_machine (map string_bytes c.args.words.now) _ (contents (g.H.Host.told c.args.host.now));
  left_over = λ t ne. left-of window_machine (map string_bytes c.args.words.now) (contents (g.H.Host.told c.args.host.now)) _ _ _ _ c.new-kept.ensures (c.do_command-outcome.ensures.heard.0 t (λ e. ne (c.write_all.ensures.same ne ∙ e)));
  written = λ to_stderr t oom.
      let start = contents (g.H.Host.told c.args.host.now) in
      let here = contents (g.H.Host.told c.do_command-outcome.new.host) in
      let said = c.do_command-outcome.ensures in
      front-of here.output _ _ _ (c.write_all.ensures.keeps.output (said.causes.keeps.errors t to_stderr) (subst IsTrue (sym said.causes.keeps.telling) t)) refl
      (subst (λ (a : Answer). IsFront here.output (output_of a)) (sym (product-is-said window_machine (map string_bytes c.args.words.now) start))
      (spoken-front c.do_command-outcome.result here (answer_by window_machine (work_plan (map string_bytes c.args.words.now) (order_of (map string_bytes c.args.words.now))) start) (λ ne. answer-is start here _ (work_plan (map string_bytes c.args.words.now) (order_of (map string_bytes c.args.words.now))) (said.both.window t) ne) (λ e. front-is start here _ (work_plan (map string_bytes c.args.words.now) (order_of (map string_bytes c.args.words.now))) (said.both.window t) e)));
}

pub returns-in-Ok-clause-headline : goal.returns-in-Ok-clause-headline
returns-in-Ok-clause-headline g c = λ t ne.
    let said = c.do_command-outcome.ensures in
    let there = subst IsTrue (sym said.causes.keeps.telling) t in
    let wanting : c.do_command-outcome.result ≢ OutOfMemory = λ e. ne (c.write_all.ensures.same ne ∙ e) in
    subst (λ (a : Answer). GoesAs a c.write_all.result (contents (g.H.Host.told c.write_all.new.host))) (watched-so list_machine (map string_bytes c.args.words.now) _ (contents (g.H.Host.told c.args.host.now)))
    (reported-goes c.do_command-outcome.result c.write_all.result _ _ (answer_by list_machine (work_plan (map string_bytes c.args.words.now) (order_of (map string_bytes c.args.words.now))) (contents (g.H.Host.told c.args.host.now))) _ _
    (said.both.list t wanting)
    (unless-by (answer_by list_machine (work_plan (map string_bytes c.args.words.now) (order_of (map string_bytes c.args.words.now))) (contents (g.H.Host.told c.args.host.now))) _ _
    (λ e. c.as_slice.ensures ∙ c.in-Ok.ensures.texts wanting ∙ found-due list_machine (map string_bytes c.args.words.now) _ _ _ (contents (g.H.Host.told c.args.host.now)) _ (c.len-count.ensures ∙ c.args.watchers.now.ok.0 ∙ sym (length-map c.args.watchers.now.items _)) (from-none _ _ _ _ c.new-kept.ensures e))
    (said.heard.1 t wanting))
    (telling-told _ _ _ _ _ (c.write_all.ensures.plan there) ne) (c.write_all.ensures.keeps.keeps.growing there))

pub returns-in-Ok-clause-causes : goal.returns-in-Ok-clause-causes
returns-in-Ok-clause-causes g c = causes-told g.H.Host.told g.H.Host.faults _ _ _ c.do_command-outcome.result _ _ c.write_all.ensures.same c.write_all.ensures.keeps.keeps c.do_command-outcome.ensures.causes

pub returns-clause-product : goal.returns-clause-product
returns-clause-product g c = record {
  plan = λ t.
      let said = c.do_command-outcome.ensures in
      let there = subst IsTrue (sym said.causes.keeps.telling) t in
      let many = c.len-count.ensures ∙ c.args.watchers.now.ok.0 ∙ sym (length-map c.args.watchers.now.items _) in
      let e = c.in-Err.ensures in
      record {
        left = contents (g.H.Host.told c.do_command-outcome.new.host);
        outcome = c.do_command-outcome.result;
        said = OutOfMemory;
        texts = [];
        heard = product_traces window_machine (map string_bytes c.args.words.now) (contents (g.H.Host.told c.args.host.now));
        works = plan-comes (contents (g.H.Host.told c.args.host.now)) _ _ (work_plan (map string_bytes c.args.words.now) (order_of (map string_bytes c.args.words.now))) _ (traces-of window_machine (map string_bytes c.args.words.now) (contents (g.H.Host.told c.args.host.now))) (said.both.window t);
        reports = inr ((e.worked, some-due _ _ _ e.asked (subst (λ n. 1 ≤ n) many e.watched)), (refl, refl));
        told = record { between = _; spoken = c.write_message.result; message = c.write_message.ensures.plan there; following = inl (alone _ _) };
      };
  answer = λ t ne. absurd (ne (c.write_message.ensures.same ne));
  left_over = λ t ne. absurd (ne (c.write_message.ensures.same ne));
  written = λ to_stderr t oom.
      let start = contents (g.H.Host.told c.args.host.now) in
      let here = contents (g.H.Host.told c.do_command-outcome.new.host) in
      let said = c.do_command-outcome.ensures in
      front-of here.output _ _ _ (c.write_message.ensures.keeps.output (said.causes.keeps.errors t to_stderr) (subst IsTrue (sym said.causes.keeps.telling) t)) refl
      (subst (λ (a : Answer). IsFront here.output (output_of a)) (sym (product-is-said window_machine (map string_bytes c.args.words.now) start))
      (spoken-front c.do_command-outcome.result here (answer_by window_machine (work_plan (map string_bytes c.args.words.now) (order_of (map string_bytes c.args.words.now))) start) (λ ne. answer-is start here _ (work_plan (map string_bytes c.args.words.now) (order_of (map string_bytes c.args.words.now))) (said.both.window t) ne) (λ e. front-is start here _ (work_plan (map string_bytes c.args.words.now) (order_of (map string_bytes c.args.words.now))) (said.both.window t) e)));
}

pub returns-clause-headline : goal.returns-clause-headline
returns-clause-headline g c = λ t ne. absurd (ne (c.write_message.ensures.same ne))

pub returns-clause-causes : goal.returns-clause-causes
returns-clause-causes g c = causes-told g.H.Host.told g.H.Host.faults _ _ _ c.do_command-outcome.result _ _ (λ ne. absurd (ne (c.write_message.ensures.same ne))) c.write_message.ensures.keeps.keeps c.do_command-outcome.ensures.causes
