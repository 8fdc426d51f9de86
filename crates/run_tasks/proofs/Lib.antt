mod Moved
mod Unknown
mod Inside
mod Outlets
