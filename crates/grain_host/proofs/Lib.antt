mod Given
mod Numbers
mod PlainStops
mod Signing
mod Waiting
