-- What holds of an Ok.
use Rattle.std.proofs.Common.{Result, Ok, Err, IfOk, OnOk, IfErr, IfSome, Option, Some, None}

pub IfOk-map : {A E : Type 0} (P Q : A → Type 0) (r : Result A E) → ((x : A) → P x → Q x) → IfOk r P → IfOk r Q
IfOk-map P Q (Ok x) f h = f x h
IfOk-map P Q (Err e) f h = tt

pub IfSome-map : {A : Type 0} (P Q : A → Type 0) (o : Option A) → ((x : A) → P x → Q x) → IfSome o P → IfSome o Q
IfSome-map P Q None f h = tt
IfSome-map P Q (Some x) f h = f x h

pub IfErr-map : {A E : Type 0} (P Q : E → Type 0) (r : Result A E) → ((e : E) → P e → Q e) → IfErr r P → IfErr r Q
IfErr-map P Q (Ok x) f h = tt
IfErr-map P Q (Err e) f h = f e h

pub IfOk-both : {A E : Type 0} (P : Type 0) (Q R : A → Type 0) (r : Result A E) → ((x : A) → P → Q x → R x) → OnOk r P
    → IfOk r Q → IfOk r R
IfOk-both P Q R (Ok x) f p q = f x p q
IfOk-both P Q R (Err e) f p q = tt
