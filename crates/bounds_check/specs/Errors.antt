-- A list of systems that is too long, and want of memory, are those of the whole list.
use Rattle.affine_forms.specs.declared.error.FormError.{FormError}
use Rattle.affine_forms.specs.declared.error.FormError.TheVariants as form
use Rattle.bounds_check.specs.declared.error.CheckError.{CheckError}
use Rattle.bounds_check.specs.declared.error.CheckError.TheVariants.{TooManyObligations, Form, Memory}

abbrev pub error_of : FormError → CheckError
error_of form.TooManyCases = Form form.TooManyCases
error_of form.SystemTooLarge = Form form.SystemTooLarge
error_of form.WideNumber = Form form.WideNumber
error_of form.TooManySystems = TooManyObligations
error_of form.Memory = Memory
