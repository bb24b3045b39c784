-- The error of a driver that writes by layouts.
use Rattle.std.specs.declared.alloc.AllocError.{AllocError}
use Rattle.csl_driver.specs.declared.error.DriverError.{DriverError}
use Rattle.csl_driver.specs.declared.error.DriverError.TheVariants.{OutOfMemory}
use Rattle.csl_driver.specs.declared.error.FinishError.{FinishError}
use Rattle.csl_driver.specs.declared.error.FinishError.TheVariants.{Driver, Writer}

-- a writer of layouts refuses for want of memory alone
abbrev pub own_error : FinishError AllocError → DriverError
own_error (Driver e) = e
own_error (Writer a) = OutOfMemory a
