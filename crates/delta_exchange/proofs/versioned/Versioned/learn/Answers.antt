use Rattle.std.proofs.Common.{◌≡◌, ◌+◌, map, length, refl, sym, ◌∙◌, ap, subst, arith, cond}
use Rattle.delta_exchange.specs.Changes.{ChangesAt}
use Rattle.delta_exchange.specs.Marks.{MarksValue, marks_value, last_changes, AreUpto}
use Rattle.delta_exchange.specs.News.{news_of, with_news}
use Rattle.delta_exchange.specs.Versions.{value_of}
use Rattle.delta_exchange.proofs.NewsChanges.{marks_upto, upto_more}
use Rattle.delta_exchange.proofs.LearnsLemmas.{change_if_any, learned_state, learned_all, learned_changes, learns_nothing, none_new, some_new}
use Rattle.delta_exchange.proofs.versioned.Versioned.learn.Goals as goal

pub returns-then-is_empty-clause-changed : goal.returns-then-is_empty-clause-changed
unfolding value_of
returns-then-is_empty-clause-changed g c = λ told e. sym (change_if_any (g.R.Replica.state c.args.self.now.replica) told
    c.args.news.now e ∙ none_new (length c.args.news.now) c.if-is_empty.ensures)

pub returns-then-is_empty-clause-ok : goal.returns-then-is_empty-clause-ok
unfolding value_of
returns-then-is_empty-clause-ok g c = λ told e.
    learns_nothing (value_of g.R.Replica.state c.args.self.now) told
    (change_if_any (g.R.Replica.state c.args.self.now.replica) told c.args.news.now e ∙
    none_new (length c.args.news.now) c.if-is_empty.ensures)

pub invariant_of-self-2 : goal.invariant_of-self-2
invariant_of-self-2 g c =
    let version = c.args.self.now.version in
    record {
      upto = subst (λ (n : MarksValue). AreUpto n (version + 1)) (sym c.mark_all.ensures)
          (marks_upto (version + 1) (map news_of c.args.news.now) (marks_value c.make_room.new.marks)
          (subst (λ (n : MarksValue). AreUpto n (version + 1)) (sym c.in_ok-make_room.ensures.same)
          (upto_more (marks_value c.args.self.now.marks) version (version + 1) (omega arith) c.args.self.now.upto)));
    }

pub returns-clause-changed : goal.returns-clause-changed
unfolding value_of
returns-clause-changed g c = λ told e. sym (change_if_any (g.R.Replica.state c.args.self.now.replica) told
    c.args.news.now e ∙ some_new (length c.args.news.now) (sym c.is_empty.ensures ∙ c.if-is_empty.false))

pub returns-clause-ok : goal.returns-clause-ok
unfolding value_of
returns-clause-ok g c = λ told e.
    let v = g.R.Replica.state c.args.self.now.replica in
    let w = g.R.Replica.state c.merge.new.self in
    let version = c.args.self.now.version + 1 in
    let m = marks_value c.args.self.now.marks in
    let ts = c.args.news.now in
    let marked : marks_value c.mark_all.new.marks ≡ with_news version (map news_of ts) m = c.mark_all.ensures ∙
    ap (with_news version (map news_of ts)) c.in_ok-make_room.ensures.same in
    let state = learned_state v told ts e w (g.R.Replica.state c.args.received) c.requires.brings
    c.in_ok-merge.ensures.ok in
    record {
      learned = record {
        state = learned_all v told ts e w state;
        version = ap (λ b. c.args.self.now.version + cond b 1 0)
            (sym (change_if_any v told ts e ∙ some_new (length ts) (sym c.is_empty.ensures ∙ c.if-is_empty.false)));
        last = λ ops f. subst (λ (n : MarksValue). ChangesAt v w version (last_changes m) (last_changes n)) (sym marked)
            (learned_changes v told ts e w m version (omega arith)
            (upto_more m c.args.self.now.version version (omega arith) c.args.self.now.upto) state ops f);
      };
      known = refl;
      acked = refl;
    }
