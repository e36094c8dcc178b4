-- What the policy 2Q means.
use Rattle.std.proofs.Common.{sym, length-append}
use Rattle.std.specs.Prelude.{◌++◌}
use Rattle.policy.specs.Sets.{Kept}
use Rattle.policy.specs.declared.policy.Policy as policy
use Rattle.two_q.specs.declared.two_q.TwoQ.{TwoQ}
use Rattle.two_q.specs.Model.{Model, resident, size, empty, touched, chosen, admitted}
use Rattle.policy.specs.Once.{member_append, distinct_append}

abbrev pub model : TwoQ → Model
model q = record { bound = q.frames.value; am = q.am; a1in = q.a1in; a1out = q.a1out }

pub kept : (q : TwoQ) → Kept (resident (model q)) (size (model q)) q.frames.value
kept q = record {
  least = q.frames.least;
  most = q.frames.most;
  within = q.few;
  counted = (q.am ++ q.a1in, distinct_append _ _ q.once, length-append q.am q.a1in, λ p. sym (member_append p q.am q.a1in));
}

abbrev pub two_q : policy.Ghosts TwoQ
two_q = record {
  Model = Model;
  model = model;
  resident = resident;
  size = size;
  bound = λ m. m.bound;
  emptied = λ m. empty m.bound;
  touched = λ m p t. touched m p;
  admitted = λ m p leaving t. admitted m p leaving;
  chosen = λ m listed t. chosen m listed;
  kept = kept;
}
