-- What was posted stays the front of all that is posted.
use Rattle.std.proofs.Common.{◌≡◌, true, List, [], ◌∷◌, ◌++◌, None, refl, sym, ap, subst, ◌∙◌, append_assoc}
use Rattle.std.proofs.lemmas.Bool.{cond_both}
use Rattle.std.proofs.lemmas.List.{append-nil}
use Rattle.plain_types.specs.declared.code.Code.TheVariants.{TurnsUsedUp}
use Rattle.connection_list.specs.Rows.{has_number}
use Rattle.session_model.specs.declared.line.Line.TheVariants.{Warning}
use Rattle.session_model.specs.declared.post.Post.{Post}
use Rattle.session_model.specs.Agenda.{step}
use Rattle.session_model.specs.Operations.{operation_done}
use Rattle.session_model.specs.Execution.{Execution, dying, first_taken, in_state, lost, enqueued, posting, severed, single_shot_broken, stepped, line_told}
use Rattle.session_model.specs.Execution.{turn_taken, used_up}
use Rattle.session_model.specs.Items.{Item, Next}
use Rattle.session_model.specs.Run.{run}
use Rattle.session_model.specs.Settings.{Settings}
use Rattle.session_model.specs.State.{without_connections}
use Rattle.session_model.proofs.ForCallers.{run_keeps, Holds, step_holds}
use Rattle.dispatch.specs.Prefix.{IsPrefix}

pub front_same : (posts : List Post) → IsPrefix posts posts
front_same posts = ([], sym (append-nil posts))

-- no post is the front of any posts
pub front_none : (whole : List Post) → IsPrefix [] whole
front_none whole = (whole, refl)

pub front_both : (one two three : List Post) → IsPrefix one two → IsPrefix two three → IsPrefix one three
front_both one two three first second = (first.0 ++ second.0, second.1 ∙ ap (λ posts. posts ++ second.0) first.1 ∙ append_assoc one first.0 second.0)

-- no more than the front itself
pub front_nothing : (front whole : List Post) → IsPrefix front whole → IsPrefix (front ++ []) whole
front_nothing front whole is = subst (λ front. IsPrefix front whole) (sym (append-nil front)) is

-- a session has posted only behind what it had
abbrev pub PostsBehind : Execution → Execution → Type 0
PostsBehind old new = IsPrefix old.posts new.posts

same : (doing : Execution) → PostsBehind doing doing
same doing = front_same doing.posts

-- what each change posts
holds : Holds PostsBehind
unfolding line_told posting turn_taken used_up single_shot_broken enqueued lost first_taken stepped dying severed operation_done
holds = record {
  same = same;
  both = λ one two three first second. front_both one.posts two.posts three.posts first second;
  tells = λ doing said. same doing;
  publishes = λ doing more. (more, refl);
  takes_turn = same;
  uses_up = λ doing. cond_both doing.spent doing (record doing { spent = true; lines = doing.lines ++ Warning TurnsUsedUp None ∷ [] }) (PostsBehind doing)
      (λ spent. same doing) (λ fresh. same doing);
  shoots = λ doing row. cond_both row.single (in_state doing (without_connections doing.state (has_number row.number))) doing (PostsBehind doing)
      (λ single. same doing) (λ lasting. same doing);
  posts = λ doing event. same doing;
  loses = same;
  takes = same;
  does = λ doing operation. same doing;
  writes = λ doing target writing. same doing;
  marks = λ doing target. same doing;
  severs = λ doing target. same doing;
  goes = λ doing target. same doing;
  steps = λ doing number next. same doing;
}

module _ (settings : Settings) where
  pub step_front : (item : Item) (doing : Execution) → PostsBehind doing (step settings item doing).doing
  step_front item doing = step_holds settings PostsBehind holds item doing

  pub run_posts_behind : (agenda : List Item) (doing : Execution) → PostsBehind doing (run settings agenda doing)
  run_posts_behind agenda doing = run_keeps settings (λ items new. PostsBehind doing new)
      (λ item rest new before. front_both doing.posts new.posts (step settings item new).doing.posts before (step_front item new)) agenda doing (same doing)

  -- so all that something comes to posts behind what was there
  pub run_front : (posts : List Post) (next : Next) → IsPrefix posts next.doing.posts → IsPrefix posts (run settings next.items next.doing).posts
  run_front posts next begins = front_both posts next.doing.posts (run settings next.items next.doing).posts begins (run_posts_behind next.items next.doing)

  -- where others are done behind a part, that has posted the front of all
  pub part_front : (others : List Item) (part whole : Execution) → run settings others part ≡ whole → IsPrefix part.posts whole.posts
  part_front others part whole e = subst (PostsBehind part) e (run_posts_behind others part)
